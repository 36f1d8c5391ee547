-- What a request's line says: it is read as report's numbers are written, a word and then numbers, each after a tab.
use Rattle.std.specs.Prelude.{◌≡◌, ℕ, ◌<◌, ◌≤◌, true, false, List, [], ◌∷◌, ◌++◌, length, get_or, take, Option, Some, None}
use Rattle.rules.specs.Text.{Bytes}
use Rattle.rules.specs.Decimal.{decimal}
use Rattle.report.specs.Line.{fields}
use Rattle.requests.specs.declared.Ask.{Ask}
use Rattle.requests.specs.declared.Request.{Request}

-- the words `judge`, `counts`, `play` and `outcome`
abbrev pub name_of : Ask → Bytes
name_of (Ask.Judge false) = 106 ∷ 117 ∷ 100 ∷ 103 ∷ 101 ∷ []
name_of (Ask.Judge true) = 99 ∷ 111 ∷ 117 ∷ 110 ∷ 116 ∷ 115 ∷ []
name_of Ask.Play = 112 ∷ 108 ∷ 97 ∷ 121 ∷ []
name_of Ask.Outcome = 111 ∷ 117 ∷ 116 ∷ 99 ∷ 111 ∷ 109 ∷ 101 ∷ []

-- the largest number of 32 bits
abbrev pub most32 : ℕ
most32 = 4294967295

-- a field has a byte at least, and no 0 in front of another
pub record Plain (field : Bytes) : Type 0 where
  pub some : 0 < length field
  pub lead : 1 < length field → ¬ (get_or field 0 0 ≡ 48)

-- the field is the number in decimal; or it is no number's
abbrev pub NumberReply : Bytes → Option ℕ → Type 0
NumberReply field (Some n) = (n ≤ most32) × (field ≡ decimal n)
NumberReply field None = (n : ℕ) → n ≤ most32 → ¬ (field ≡ decimal n)

-- what follows a field: nothing, or a tab and more
pub record Ends (rest : Bytes) : Type 0 where
  pub stops : 0 < length rest → get_or rest 0 0 ≡ 9

-- the first field of a text, and what follows it
pub record FirstField (text field rest : Bytes) : Type 0 where
  pub parts : text ≡ field ++ rest
  pub no_tab : (j : ℕ) → j < length field → ¬ (get_or field j 0 ≡ 9)
  pub ends : Ends rest

-- numbers that the rest of a line can be: 403 at most, each of 32 bits
pub record Few (numbers : List ℕ) : Type 0 where
  pub count : length numbers ≤ 403
  pub small : (j : ℕ) → get_or numbers j 0 ≤ most32

-- the rest of a line is so many numbers; or no such numbers
pub record CountOf (text : Bytes) (numbers : List ℕ) (n : ℕ) : Type 0 where
  pub size : length (take n numbers) ≡ n
  pub few : Few (take n numbers)
  pub reads : text ≡ fields (take n numbers)

abbrev pub CountReply : Bytes → List ℕ → Option ℕ → Type 0
CountReply text numbers (Some n) = CountOf text numbers n
CountReply text numbers None = (ns : List ℕ) → Few ns → ¬ (text ≡ fields ns)

-- the field is the word of what is asked; or no such word
abbrev pub AskReply : Bytes → Option Ask → Type 0
AskReply field (Some ask) = field ≡ name_of ask
AskReply field None = (ask : Ask) → ¬ (field ≡ name_of ask)

-- judge, with all counts or not: workspace, bytes; play: those, room and cells; outcome: those, room and the outcome's number
abbrev pub HasNumbers : Ask → ℕ → Type 0
HasNumbers (Ask.Judge all) n = n ≡ 2
HasNumbers Ask.Play n = 3 ≤ n
HasNumbers Ask.Outcome n = n ≡ 4

-- the room that is lent: the third number, where there is one
abbrev pub room_of : List ℕ → ℕ
room_of numbers = get_or numbers 2 0

-- what the numbers of a request mean, within the limits
pub record RequestOf (numbers : List ℕ) (r : Request) : Type 0 where
  pub size : length numbers ≡ r.count
  pub work_is : r.work ≡ get_or numbers 0 0
  pub bytes_is : r.bytes ≡ get_or numbers 1 0
  pub room_is : r.room ≡ room_of numbers
  pub counted : HasNumbers r.ask r.count
  pub work_within : r.work ≤ 9000
  pub bytes_within : r.bytes ≤ 65536
  pub room_within : r.room ≤ 1000

-- the request that asks this with the numbers; or there is none
pub record AskedWith (ask : Ask) (numbers : List ℕ) (r : Request) : Type 0 where
  pub ask_is : r.ask ≡ ask
  pub means : RequestOf numbers r

abbrev pub RequestReply : Ask → List ℕ → Option Request → Type 0
RequestReply ask numbers (Some r) = AskedWith ask numbers r
RequestReply ask numbers None = (r : Request) → ¬ AskedWith ask numbers r

-- the line of a request: the word of what is asked, and its numbers
pub record LineOf (line : Bytes) (numbers : List ℕ) (r : Request) : Type 0 where
  pub few : Few numbers
  pub written : line ≡ name_of r.ask ++ fields numbers
  pub means : RequestOf numbers r

-- the line is the request's, whose numbers were put first; or it is no request's
abbrev pub LineReply : Bytes → List ℕ → Option Request → Type 0
LineReply line numbers (Some r) = LineOf line (take r.count numbers) r
LineReply line numbers None = (ns : List ℕ) (r : Request) → ¬ LineOf line ns r
