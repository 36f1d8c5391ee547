-- Outcome's checks one after another, the cells that it lists, and what it replies.
use mathlib.Core.Path.{◌≡◌, sym, ap, ◌∙◌, subst, subst⁻¹}
use mathlib.Core.Bool.{Bool, ◌||◌}
use mathlib.Core.List.{List, [], ◌++◌, append_assoc}
use Prim.Native.Nat.{ℕ, ◌≤◌, ◌<◌}
use native.Mathlib.Omega.{arith}
use lib.ListN.{length, get_or, drop}
use borrow.Author.Tests.{lt-ltb, le-ltb}
use Rattle.rules.specs.Sizes.{least_workspace}
use Rattle.rules.specs.Words.{among}
use Rattle.rules.specs.Text.{Bytes}
use Rattle.rules.specs.Board.{listed}
use Rattle.rules.specs.Tree.{Sheet, stone, own_cells, at_start}
use Rattle.rules.specs.Reading.{Result, refused, got}
use Rattle.rules.specs.Live.{living}
use Rattle.rules.specs.Outcomes.{outcomes, outcome_count, outcomes_of_waits}
use Rattle.rules.specs.Entries.{◌>>=◌, refuse_if, read_text_up_to, read_text, read_up_to, fair, outcome_cells, OutcomeReply, named, outcome, outcome_shown, room_after, OutcomeKept}
use Rattle.rules.specs.declared.Board.{Board}
use Rattle.rules.specs.declared.Named.{Named}
use Rattle.rules.specs.declared.Verdict.{Verdict}
use Rattle.rules.specs.declared.Verdict.TheVariants.{Done, SmallWorkspace, NoSuchOutcome, ShortRoom}
use Rattle.rules.proofs.Lists.{among_append}
use Rattle.rules.proofs.Outcomes.{nth_outcome}
use Rattle.cells.specs.Cells.{held, Listed}
use Rattle.cells.proofs.Smallest.{listed_same}
use Rattle.nodes.specs.Sheets.{HoldsSetUp}
use Rattle.nodes.specs.declared.head.SetUp.{SetUp}
use Rattle.nodes.proofs.Sheets.{living_weighed}
use Rattle.outcomes.specs.Picking.{MovePick, SomeMovePick, MovePicked}
use Rattle.judging.specs.Checked.{Passed}
use Rattle.sheet.specs.Naming.{listing, naming, HasOutcome, SomeOutcome, as_named, NamedKept}
use Rattle.std.specs.Prelude as code
use Rattle.std.specs.Prelude.{Ok, Err, Option, Some, None}
use Rattle.std.specs.Option.{unwrap_or}
use Rattle.sheet.specs.Table.{RanReply, RanOn}

-- a refusal lists nothing, and leaves the room as it was
pub kept_refused : (o : OutcomeReply) (v : Verdict) (room : List ℕ) → o ≡ named (refused v) → NamedKept o room (as_named (Err v)) room
unfolding room_after named outcome_shown
kept_refused o v room e = record { reply_is = sym (ap outcome_shown e); room_is = ap (λ (z : OutcomeReply). room_after z.cells room) (sym e) }

-- the outcome that was picked, in the words of rules
module _ {t : List ℕ} {b : Board} {own : List ℕ} {s : Sheet} {number : ℕ} (h : HasOutcome t b own s number) where
  picks : MovePick b t 0 number s.root.cell (living s.root.waits)
  unfolding outcome_count
  picks = record { at = living_weighed h.holds; numbered = record { below = h.numbered; few = h.few } }

  pub picked_cells : (after : List ℕ) → MovePicked b t 0 number own after → listed b (held b after) ≡ outcome_cells s number
  unfolding outcome_cells at_start
  picked_cells after p =
      let o = get_or (outcomes_of_waits (living s.root.waits)) number [] in
      let root = stone s.root.cell in
      listed_same b (held b after) (among (get_or (outcomes s) number []))
      (λ y i.
      (p s.root.cell (living s.root.waits) picks).held_are y
      ∙ ap (λ (z : Bool). z || among (root ++ o) y) (h.own_held.same y)
      ∙ sym (among_append y (own_cells s.set_up) (root ++ o))
      ∙ ap (λ (l : List ℕ). among l y) (sym (append_assoc (own_cells s.set_up) root o) ∙ sym (nth_outcome s number h.numbered)))
      ∙ ap (λ (z : Board). listed z (among (get_or (outcomes s) number []))) (sym h.holds.on)

  -- 14, or the cells
  module _ (room : List ℕ) (cells : List ℕ) (same : cells ≡ outcome_cells s number) where
    pub listed_short : length room < length cells → NamedKept (named (listing s number (length room))) room (as_named (Err ShortRoom)) room
    unfolding listing refuse_if ◌>>=◌
    listed_short l =
        kept_refused (named (listing s number (length room))) ShortRoom room
        (rw (lt-ltb (length room) (length (outcome_cells s number)) (subst (λ (z : List ℕ). length room < length z) same l)))

    pub listed_done : (room' : List ℕ) (n : ℕ) → length cells ≤ length room → Listed cells room room' n → NamedKept (named (listing s number (length room))) room (as_named (Ok n)) room'
    listed_done room' n l w =
        let q = goes (subst (λ (z : List ℕ). length z ≤ length room) same l) in
        record {
          reply_is = shown w.number ∙ ap outcome_shown (sym q);
          room_is = w.written ∙ placed ∙ ap (λ (z : OutcomeReply). room_after z.cells room) (sym q);
        }
      where
        goes : length (outcome_cells s number) ≤ length room → named (listing s number (length room)) ≡ record { verdict = Done; cells = outcome_cells s number }
        goes k = unfold listing refuse_if ◌>>=◌ named in rw (le-ltb (length room) (length (outcome_cells s number)) k)

        shown : n ≡ length cells → as_named (Ok n) ≡ outcome_shown (record { verdict = Done; cells = outcome_cells s number })
        shown k = unfold outcome_shown in ap (λ (z : ℕ). record { verdict = Done; cells = z }) (k ∙ ap length same)

        placed : (cells ++ drop (length cells) room) ≡ room_after (outcome_cells s number) room
        placed = unfold room_after in ap (λ (z : List ℕ). z ++ drop (length z) room) same

pub some_pick : {t : List ℕ} {b : Board} {own : List ℕ} {number : ℕ} → SomeOutcome t b own number → SomeMovePick b t 0 number
some_pick o = (o.sheet.root.cell, living o.sheet.root.waits, picks o.has)

-- 20, 10, 24, 11, 12 and 18 of a held sheet
module _ (s : Sheet) (i room : ℕ) where
  pub naming_refused : (v : Verdict) → fair s ≡ refused v → naming s i room ≡ refused v
  unfolding naming ◌>>=◌
  naming_refused v e = rw e

  pub naming_none : fair s ≡ got s → outcome_count s ≤ i → naming s i room ≡ refused NoSuchOutcome
  unfolding naming refuse_if ◌>>=◌
  naming_none e h = rw (e, le-ltb i (outcome_count s) h)

  pub naming_listing : fair s ≡ got s → i < outcome_count s → naming s i room ≡ listing s i room
  unfolding naming refuse_if ◌>>=◌
  naming_listing e h = rw (e, lt-ltb i (outcome_count s) h)

-- of a text, with a workspace that suffices
module _ (t : Bytes) (i room : ℕ) where
  text_outcome : (w : ℕ) → least_workspace ≤ w → outcome w t i room ≡ named (read_text t >>= λ s. naming s i room)
  unfolding outcome read_up_to read_text_up_to naming listing refuse_if ◌>>=◌
  text_outcome w h = rw (le-ltb w least_workspace h)

  pub outcome_refused : (v : Verdict) → read_text t ≡ refused v → outcome least_workspace t i room ≡ named (refused v)
  unfolding ◌>>=◌
  outcome_refused v e = text_outcome least_workspace (omega arith) ∙ ap (λ (r : Result Sheet). named (r >>= λ s. naming s i room)) e

  pub outcome_sheet : (s : Sheet) → read_text t ≡ got s → outcome least_workspace t i room ≡ named (naming s i room)
  unfolding ◌>>=◌
  outcome_sheet s e = text_outcome least_workspace (omega arith) ∙ ap (λ (r : Result Sheet). named (r >>= λ s. naming s i room)) e

  pub outcome_same : (w : ℕ) → least_workspace ≤ w → outcome least_workspace t i room ≡ outcome w t i room
  outcome_same w h = text_outcome least_workspace (omega arith) ∙ sym (text_outcome w h)

-- a reply that is the same as another
pub kept_as : {o o' : OutcomeReply} {room room' : List ℕ} {r : Named} → o ≡ o' → NamedKept o' room r room' → NamedKept o room r room'
kept_as {o} {o'} {room} {room'} {r} e k = subst⁻¹ (λ (z : OutcomeReply). NamedKept z room r room') e k

-- outcome itself
pub outcome_ran : {F : Type 0} (run : List ℕ → code.Result ℕ Verdict → F → List ℕ → Type 0) (ws : List ℕ) (t : Bytes) (i : ℕ) (room room' : List ℕ) (o : Option (code.Result ℕ Verdict))
    (before after : F) (ws' : List ℕ) → RanOn run ws o before after ws' → (after ≡ before → room' ≡ room)
    → ((table table' : List ℕ) (r : code.Result ℕ Verdict) → run table r after table' → NamedKept (outcome least_workspace t i (length room)) room (as_named r) room')
    → OutcomeKept ws t i room (as_named (unwrap_or o (Err SmallWorkspace))) ws' room'
outcome_ran run ws t i room room' o before after ws' k none each =
    let q = kept o k.reply_is in
    record { reply = q.reply_is; memory = k.memory; cells = q.room_is }
  where
    kept : (o : Option (code.Result ℕ Verdict)) → RanReply run ws o before after
        → NamedKept (outcome (length ws) t i (length room)) room (as_named (unwrap_or o (Err SmallWorkspace))) room'
    kept None n =
        rw (none n.1) (kept_refused (outcome (length ws) t i (length room)) SmallWorkspace room
        (unfold outcome read_up_to read_text_up_to refuse_if named ◌>>=◌ in rw (lt-ltb (length ws) least_workspace n.0)))
    kept (Some r) n = kept_as (sym (outcome_same t i (length room) (length ws) n.enough)) (each _ _ r n.ran)

-- a fair sheet that has the outcome
pub has_outcome : {t : List ℕ} {b : Board} {u : SetUp} {s : Sheet} {number count idle : ℕ} → HoldsSetUp b s u → Passed t b s (fair s) count idle → number < count
    → HasOutcome t b u.stones.own.rows s number
has_outcome h f l = record { holds = f.keeps.holds; own_held = h.stones.own_held; few = omega (arith, f.counted, f.few); numbered = omega (arith, f.counted) }
