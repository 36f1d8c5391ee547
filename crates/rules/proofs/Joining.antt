-- The test `joined` and the chain of neighbours `Joins` say the same.
use Rattle.std.specs.Prelude.{if◌then◌else◌}
use mathlib.Core.Path.{◌≡◌, refl, ap, subst, subst⁻¹}
use mathlib.Core.Logic.{◌⊎◌, inl, inr, ◌↔◌}
use Prim.Native.Nat.{ℕ, zero, suc, ◌+◌, ◌-◌, ◌*◌, ◌≤◌}
use native.Mathlib.Nat.{mul-le-mul_right}
use mathlib.Core.Bool.{Bool, true, false, not, ◌&&◌}
use mathlib.Core.List.{List, [], ◌∷◌, ◌++◌}
use lib.Dec.{T, eqb, eqb_refl, eqb→eq, leb, leb→le, le→leb}
use lib.ListN.{length}
use native.Mathlib.Omega.{arith}
use Rattle.rules.specs.Words.{among, keep, up_to}
use Rattle.rules.specs.Board.{on_board, cell_at, cells, is_cell, there, around, neighbours, on_first_side, on_last_side, listed}
use Rattle.rules.specs.Joining.{Chain, here, step, Joins, touches, grow, reached_in, joined}
use Rattle.rules.specs.declared.Board.{Board}
use Rattle.rules.specs.declared.Player.{Player}
use Rattle.rules.proofs.Tests.{decide, both, fst, snd, left, cases, same_test}
use Rattle.rules.proofs.Lists.{keep_in, in_keep, any_some, some_any, in_append, append_left, append_right, keep_split, up_to_in, in_up_to}

-- the listed cells of a set are those of its cells that are on the board
pub listed_in : (b : Board) (set : ℕ → Bool) (x : ℕ) → T (among (listed b set) x) → T (is_cell b x) × T (set x)
unfolding listed is_cell
listed_in b set x h =
    let k = keep_in set x (up_to (cells b)) h in
    let r = up_to_in (cells b) x k.0 in
    (both (leb 1 x) (leb x (cells b)) (le→leb 1 x r.0) (le→leb x (cells b) r.1), k.1)

pub in_listed : (b : Board) (set : ℕ → Bool) (x : ℕ) → T (is_cell b x) → T (set x) → T (among (listed b set) x)
unfolding listed is_cell
in_listed b set x c h =
    in_keep set x (up_to (cells b)) h
    (in_up_to (cells b) x (leb→le 1 x (fst (leb 1 x) (leb x (cells b)) c)) (leb→le x (cells b) (snd (leb 1 x) (leb x (cells b)) c)))

-- a column and a row of the board give a cell of the board
pub cell_on_lem : (b : Board) (c r : ℕ) → T (on_board b c r) → T (is_cell b (cell_at b c r))
unfolding on_board is_cell cell_at cells
cell_on_lem b c zero h = absurd (snd (leb 1 c && leb c b.columns) (leb 1 0 && leb 0 b.rows) h)
cell_on_lem b c (suc k) h =
    let p = fst (leb 1 c && leb c b.columns) (leb 1 (suc k) && leb (suc k) b.rows) h in
    let q = snd (leb 1 c && leb c b.columns) (leb 1 (suc k) && leb (suc k) b.rows) h in
    let c1 = leb→le 1 c (fst (leb 1 c) (leb c b.columns) p) in
    let c2 = leb→le c b.columns (snd (leb 1 c) (leb c b.columns) p) in
    let k1 = leb→le (suc k) b.rows (snd (leb 1 (suc k)) (leb (suc k) b.rows) q) in
    let e : suc k - 1 ≡ k = omega arith in
    rw e
    (both (leb 1 (k * b.columns + c)) (leb (k * b.columns + c) (b.columns * b.rows))
    (le→leb 1 (k * b.columns + c) (omega (arith, c1)))
    (le→leb (k * b.columns + c) (b.columns * b.rows) (omega (arith, c2, mul-le-mul_right b.columns k1))))

-- what stands there is a cell of the board
there_cell : (b : Board) (c r y : ℕ) → T (among (there b c r) y) → T (is_cell b y)
unfolding there among
there_cell b c r y h = go (on_board b c r) (cell_on_lem b c r) h
  where
    go : (t : Bool) → (T t → T (is_cell b (cell_at b c r))) → T (among (if t then cell_at b c r ∷ [] else []) y) → T (is_cell b y)
    go true f k =
        elim (cases (eqb y (cell_at b c r)) false k) [
          | inl e ↦ subst⁻¹ (λ z. T (is_cell b z)) (eqb→eq y (cell_at b c r) e) (f tt)
          | inr e ↦ absurd e
        ]
    go false f k = absurd k

-- a neighbour is a cell of the board
pub neighbour_cell : (b : Board) (x y : ℕ) → T (among (neighbours b x) y) → T (is_cell b y)
unfolding neighbours around
neighbour_cell b x y h =
    pick _ _
    (pick _ _ (pick _ _ (pick _ _ (pick _ _ (there_cell b _ _ y) (there_cell b _ _ y)) (there_cell b _ _ y)) (there_cell b _ _ y)) (there_cell b _ _ y))
    (there_cell b _ _ y)
    h
  where
    pick : (xs ys : List ℕ) → (T (among xs y) → T (is_cell b y)) → (T (among ys y) → T (is_cell b y)) → T (among (xs ++ ys) y) → T (is_cell b y)
    pick xs ys f g k = elim (in_append y xs ys k) [ inl i ↦ f i | inr i ↦ g i ]

-- a chain grows at its end
snoc : {b : Board} {s : ℕ → Bool} {z x : ℕ} (y : ℕ) → T (s y) → T (among (neighbours b z) y) → Chain b s z x → Chain b s y x
snoc y hy hn (here h) = step y h hn (here hy)
snoc y hy hn (step w hx hw c) = step w hx hw (snoc y hy hn c)

pub chain_from : {b : Board} {s : ℕ → Bool} {z x : ℕ} → Chain b s z x → T (s x)
chain_from (here h) = h
chain_from (step w hx hw c) = hx

-- a chain on the board inside one set is one inside another that has its cells
chain_inside : {b : Board} {s t : ℕ → Bool} {z x : ℕ} → ((y : ℕ) → T (is_cell b y) → T (s y) → T (t y)) → T (is_cell b x) → Chain b s z x → Chain b t z x
chain_inside f i (here h) = here (f _ i h)
chain_inside {b = b} {x = x} f i (step w hx hw c) = step w (f x i hx) hw (chain_inside f (neighbour_cell b x w hw) c)

pub joins_inside : (b : Board) (p : Player) (s t : ℕ → Bool) → ((y : ℕ) → T (is_cell b y) → T (s y) → T (t y)) → Joins b p s → Joins b p t
joins_inside b p s t f j =
    record {
      from = j.from;
      to = j.to;
      from_cell = j.from_cell;
      from_first = j.from_first;
      to_last = j.to_last;
      chain = chain_inside f j.from_cell j.chain;
    }

-- x is reached from the first side inside a list
record Reached (b : Board) (p : Player) (xs : List ℕ) (x : ℕ) : Type 0 where
  from : ℕ
  from_first : T (on_first_side b p from)
  chain : Chain b (among xs) x from

-- what touches a reached cell is reached
touched : (b : Board) (p : Player) (xs reached : List ℕ) → ((x : ℕ) → T (among reached x) → Reached b p xs x)
    → (y : ℕ) → T (among xs y) → T (touches b reached y) → Reached b p xs y
unfolding touches
touched b p xs reached all y hy h =
    let t = any_some (λ x. among (neighbours b x) y) reached h in
    let r = all t.0 t.1 in
    record { from = r.from; from_first = r.from_first; chain = snoc y hy t.2 r.chain }

grow_sound : (n : ℕ) (b : Board) (p : Player) (xs reached remaining : List ℕ) → ((x : ℕ) → T (among reached x) → Reached b p xs x)
    → ((x : ℕ) → T (among remaining x) → T (among xs x)) → (x : ℕ) → T (among (grow n b reached remaining) x) → Reached b p xs x
unfolding grow
grow_sound zero b p xs reached remaining all sub x h = all x h
grow_sound (suc n) b p xs reached remaining all sub x h =
    grow_sound n b p xs (keep (touches b reached) remaining ++ reached) (keep (λ y. not (touches b reached y)) remaining)
    (λ y hy.
    elim (in_append y (keep (touches b reached) remaining) reached hy) [
      | inl k ↦
          let kk = keep_in (touches b reached) y remaining k in
          touched b p xs reached all y (sub y kk.0) kk.1
      | inr k ↦ all y k
    ])
    (λ y hy. sub y (keep_in (λ z. not (touches b reached z)) y remaining hy).0)
    x h

pub joined→joins : (b : Board) (p : Player) (set : ℕ → Bool) → T (joined b p set) → Joins b p set
unfolding joined reached_in
joined→joins b p set h =
    let xs = listed b set in
    let e = any_some (on_last_side b p) (reached_in b p xs) h in
    let r =
    grow_sound (length xs) b p xs (keep (on_first_side b p) xs) (keep (λ x. not (on_first_side b p x)) xs)
    (λ x hx.
    let k = keep_in (on_first_side b p) x xs hx in
    record { from = x; from_first = k.1; chain = here k.0 })
    (λ x hx. (keep_in (λ y. not (on_first_side b p y)) x xs hx).0)
    e.0 e.1
    in
    let i = (listed_in b set r.from (chain_from r.chain)).0 in
    record {
      from = r.from;
      to = e.0;
      from_cell = i;
      from_first = r.from_first;
      to_last = e.2;
      chain = chain_inside (λ y c m. (listed_in b set y m).1) i r.chain;
    }

-- what is reached stays so
grow_keeps : (n : ℕ) (b : Board) (reached remaining : List ℕ) (x : ℕ) → T (among reached x) → T (among (grow n b reached remaining) x)
unfolding grow
grow_keeps zero b reached remaining x h = h
grow_keeps (suc n) b reached remaining x h =
    grow_keeps n b (keep (touches b reached) remaining ++ reached) (keep (λ y. not (touches b reached y)) remaining) x
    (append_right x (keep (touches b reached) remaining) reached h)

-- no cell that remains touches a reached one
Stuck : Board → List ℕ → List ℕ → Type 0
Stuck b reached remaining = (y : ℕ) → T (among remaining y) → T (touches b reached y) → ⊥

keep_none : (q : ℕ → Bool) (xs : List ℕ) → ((y : ℕ) → T (among (keep q xs) y) → ⊥) → keep q xs ≡ []
unfolding among
keep_none q xs none = go (keep q xs) none
  where
    go : (l : List ℕ) → ((y : ℕ) → T (among l y) → ⊥) → l ≡ []
    go [] f = refl
    go (y ∷ ys) f = absurd (f y (left (eqb y y) (among ys y) (eqb_refl y)))

stuck_grow : (n : ℕ) (b : Board) (reached remaining : List ℕ) → Stuck b reached remaining → grow n b reached remaining ≡ reached
unfolding grow Stuck
stuck_grow zero b reached remaining st = refl
stuck_grow (suc n) b reached remaining st =
    rw (keep_none (touches b reached) remaining (λ y h. let k = keep_in (touches b reached) y remaining h in st y k.0 k.1))
    (stuck_grow n b reached (keep (λ y. not (touches b reached y)) remaining) (λ y h t. st y (keep_in (λ z. not (touches b reached z)) y remaining h).0 t))

-- after as many rounds as cells remain, a neighbour of a reached cell is reached
GrownClosed : ℕ → Board → List ℕ → List ℕ → Type 0
GrownClosed n b reached remaining =
    (x y : ℕ) → T (among (grow n b reached remaining) x) → T (among reached y) ⊎ T (among remaining y) → T (among (neighbours b x) y)
    → T (among (grow n b reached remaining) y)

touches_by : (b : Board) (reached : List ℕ) (x y : ℕ) → T (among reached x) → T (among (neighbours b x) y) → T (touches b reached y)
unfolding touches
touches_by b reached x y hx hn = some_any (λ z. among (neighbours b z) y) x reached hx hn

stuck_closed : (n : ℕ) (b : Board) (reached remaining : List ℕ) → Stuck b reached remaining → GrownClosed n b reached remaining
unfolding GrownClosed Stuck
stuck_closed n b reached remaining st x y hx hy hn =
    rw (stuck_grow n b reached remaining st)
    (elim hy [
      | inl h ↦ h
      | inr h ↦ absurd (st y h (touches_by b reached x y (rw (stuck_grow n b reached remaining st) at hx) hn))
    ])

none_left : (remaining : List ℕ) (y : ℕ) → length remaining ≤ 0 → T (among remaining y) → ⊥
unfolding among
none_left [] y h m = m
none_left (z ∷ zs) y h m = omega arith

-- one round, by whether it adds a cell
round_closed : (n : ℕ) (b : Board) (reached remaining l : List ℕ) → length remaining ≤ suc n → keep (touches b reached) remaining ≡ l
    → (length (keep (λ z. not (touches b reached z)) remaining) ≤ n
    → GrownClosed n b (keep (touches b reached) remaining ++ reached) (keep (λ z. not (touches b reached z)) remaining))
    → GrownClosed (suc n) b reached remaining
unfolding GrownClosed grow among Stuck
round_closed n b reached remaining [] short e ih =
    stuck_closed (suc n) b reached remaining
    (λ y hy t. subst (λ l. T (among l y)) e (in_keep (touches b reached) y remaining t hy))
round_closed n b reached remaining (z ∷ zs) short e ih = λ x y hx hy hn.
    ih (omega (arith, keep_split (touches b reached) remaining, ap length e)) x y hx
    (elim hy [
      | inl h ↦ inl (append_right y (keep (touches b reached) remaining) reached h)
      | inr h ↦
          elim (decide (touches b reached y)) [
            | inl t ↦ inl (append_left y (keep (touches b reached) remaining) reached (in_keep (touches b reached) y remaining t h))
            | inr t ↦ inr (in_keep (λ w. not (touches b reached w)) y remaining t h)
          ]
    ])
    hn

grow_closed : (n : ℕ) (b : Board) (reached remaining : List ℕ) → length remaining ≤ n → GrownClosed n b reached remaining
unfolding grow GrownClosed
grow_closed zero b reached remaining short x y hx hy hn = elim hy [ inl h ↦ h | inr h ↦ absurd (none_left remaining y short h) ]
grow_closed (suc n) b reached remaining short x y hx hy hn =
    round_closed n b reached remaining (keep (touches b reached) remaining) short refl
    (grow_closed n b (keep (touches b reached) remaining ++ reached) (keep (λ z. not (touches b reached z)) remaining)) x y hx hy hn

-- a chain from a reached cell ends in a reached cell
chain_reached : (b : Board) (xs r : List ℕ) (z x : ℕ) → ((u v : ℕ) → T (among r u) → T (among xs v) → T (among (neighbours b u) v) → T (among r v))
    → T (among r x) → Chain b (among xs) z x → T (among r z)
chain_reached b xs r z x cl hx (here h) = hx
chain_reached b xs r z x cl hx (step w hs hn c) = chain_reached b xs r z w cl (cl x w hx (chain_from c) hn) c

split_first : (b : Board) (p : Player) (xs : List ℕ) (y : ℕ) → T (among xs y)
    → T (among (keep (on_first_side b p) xs) y) ⊎ T (among (keep (λ x. not (on_first_side b p x)) xs) y)
split_first b p xs y h =
    elim (decide (on_first_side b p y)) [
      | inl t ↦ inl (in_keep (on_first_side b p) y xs t h)
      | inr t ↦ inr (in_keep (λ x. not (on_first_side b p x)) y xs t h)
    ]

reached_closed : (b : Board) (p : Player) (xs : List ℕ) (u v : ℕ) → T (among (reached_in b p xs) u) → T (among xs v)
    → T (among (neighbours b u) v) → T (among (reached_in b p xs) v)
unfolding reached_in GrownClosed
reached_closed b p xs u v hu hv hn =
    grow_closed (length xs) b (keep (on_first_side b p) xs) (keep (λ x. not (on_first_side b p x)) xs)
    (omega (arith, keep_split (on_first_side b p) xs)) u v hu (split_first b p xs v hv) hn

first_reached : (b : Board) (p : Player) (xs : List ℕ) (x : ℕ) → T (on_first_side b p x) → T (among xs x) → T (among (reached_in b p xs) x)
unfolding reached_in
first_reached b p xs x h m =
    grow_keeps (length xs) b (keep (on_first_side b p) xs) (keep (λ y. not (on_first_side b p y)) xs) x (in_keep (on_first_side b p) x xs h m)

pub joins→joined : (b : Board) (p : Player) (set : ℕ → Bool) → Joins b p set → T (joined b p set)
unfolding joined
joins→joined b p set j =
    let xs = listed b set in
    let c = chain_inside {t = among xs} (λ y i m. in_listed b set y i m) j.from_cell j.chain in
    some_any (on_last_side b p) j.to (reached_in b p xs)
    (chain_reached b xs (reached_in b p xs) j.to j.from (reached_closed b p xs) (first_reached b p xs j.from j.from_first (chain_from c)) c)
    j.to_last

-- the test and the definition by a chain agree
pub joined_is_joins : (b : Board) (p : Player) (set : ℕ → Bool) → T (joined b p set) ↔ Joins b p set
joined_is_joins b p set = (joined→joins b p set, joins→joined b p set)

-- a set with more cells of the board joins where the first does
pub joined_more : (b : Board) (p : Player) (s t : ℕ → Bool) → ((y : ℕ) → T (is_cell b y) → T (s y) → T (t y)) → T (joined b p s) → T (joined b p t)
joined_more b p s t f h = joins→joined b p t (joins_inside b p s t f (joined→joins b p s h))

-- two sets with the same cells of the board join alike
pub joined_same : (b : Board) (p : Player) (s t : ℕ → Bool) → ((y : ℕ) → T (is_cell b y) → s y ≡ t y) → joined b p s ≡ joined b p t
joined_same b p s t f =
    same_test (joined b p s) (joined b p t)
    (joined_more b p s t (λ y i. subst T (f y i)))
    (joined_more b p t s (λ y i h. back (s y) (t y) (f y i) h))
  where
    back : (u v : Bool) → u ≡ v → T v → T u
    back u v e h = rw e h
