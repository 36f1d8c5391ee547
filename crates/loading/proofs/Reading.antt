-- A sheet's text: 2 and 3, its body, and the table that holds what was read and weighed.
use mathlib.Core.Path.{◌≡◌, refl, sym, ap, ◌∙◌, subst⁻¹}
use mathlib.Core.List.{List, []}
use mathlib.Core.Option.{Option, none, some}
use Prim.Native.Nat.{ℕ, ◌≤◌, ◌<◌}
use native.Mathlib.Omega.{arith}
use lib.ListN.{length}
use borrow.Author.Tests.{lt-ltb, le-ltb}
use Rattle.rules.specs.Sizes.{most_bytes, least_workspace}
use Rattle.rules.specs.Text.{Bytes}
use Rattle.rules.specs.Lines.{Header, header_line}
use Rattle.rules.specs.Reading.{Result, refused, read_set_up, read_body, headed, read_sheet_up_to, read_sheet}
use Rattle.rules.specs.Tree.{Sheet}
use Rattle.rules.specs.Entries.{◌>>=◌, refuse_if, read_text_up_to, read_text}
use Rattle.rules.specs.declared.Board.{Board}
use Rattle.rules.specs.declared.Player.{Player}
use Rattle.rules.specs.declared.Verdict.{Verdict}
use Rattle.rules.specs.declared.Verdict.TheVariants.{LongText, BadHeader}
use Rattle.rules.proofs.Lines.{header_is}
use Rattle.rules.proofs.WellRead.{well_read}
use Rattle.cells.proofs.Places.{size_fits}
use Rattle.cells.specs.Cells.{Fits}
use Rattle.nodes.specs.declared.head.SetUp.{SetUp}
use Rattle.nodes.specs.Sheets.{HeldStones}
use Rattle.cells.specs.declared.grid.Grid.{Grid}
use Rattle.std.specs.Prelude as code
use Rattle.std.specs.Prelude.{Ok, Err}
use Rattle.nodes.specs.Nodes.{a_move, nodes_of_waits}
use Rattle.nodes.specs.Table.{Row, SomeNode}
use Rattle.nodes.specs.Weighing.{WeighsAny}
use Rattle.nodes.proofs.Weighing.{weighs_at, weighs_long}
use Rattle.reading.specs.Kept.{BodyStands, stored_after, BodyKept}
use Rattle.loading.specs.Held.{settled, loaded_from, loaded, SheetKept}

-- a reply that refuses, where rules does
refuses : (t : Bytes) (before after : List ℕ) (v : Verdict) → read_text t ≡ refused v → after ≡ loaded t before → SheetKept t before (Err v) after
refuses t before after v reads table = record { reply_is = reads; table_is = table }

pub text_long : (t : Bytes) (table : List ℕ) → most_bytes < length t → SheetKept t table (Err LongText) table
unfolding read_text_up_to refuse_if ◌>>=◌ loaded
text_long t table h = refuses t table table LongText (rw (lt-ltb most_bytes (length t) h)) (rw (lt-ltb most_bytes (length t) h))

module _ (t : Bytes) (short : length t ≤ most_bytes) where
  text_reads : read_text t ≡ read_sheet t
  unfolding read_text_up_to refuse_if ◌>>=◌
  text_reads = rw (le-ltb most_bytes (length t) short)

  table_loaded : (table : List ℕ) → loaded t table ≡ loaded_from (header_line t) table
  unfolding loaded
  table_loaded table = rw (le-ltb most_bytes (length t) short)

  pub text_headless : (table : List ℕ) → none ≡ header_line t → SheetKept t table (Err BadHeader) table
  unfolding read_sheet_up_to headed
  text_headless table e =
      refuses t table table BadHeader (text_reads ∙ rw (sym e)) (ap (λ (o : Option (Header × Bytes)). loaded_from o table) e ∙ sym (table_loaded table))

  module _ (b : Board) (p : Player) (body : Bytes) (e : some (record { board = b; player = p }, body) ≡ header_line t) where
    sheet_body : read_sheet t ≡ read_body (record { board = b; player = p }) body
    unfolding read_sheet_up_to headed
    sheet_body = rw (sym e)

    module _ (before after : List ℕ) where
      -- the table after it
      settles : (r : code.Result SetUp Verdict) (k : BodyKept b body before r after) (q : Result Sheet) → read_body (record { board = b; player = p }) body ≡ q → settled q after ≡ loaded t before
      settles r k q came =
          ap (settled q) k.table_is
          ∙ ap (λ (z : Result Sheet). settled z (stored_after b before (read_set_up (length body) b [] body))) (sym came)
          ∙ ap (λ (o : Option (Header × Bytes)). loaded_from o before) e
          ∙ sym (table_loaded before)

      pub text_refused : (v : Verdict) → BodyKept b body before (Err v) after → SheetKept t before (Err v) after
      text_refused v k =
          let told = k.reply_is p in
          refuses t before after v (text_reads ∙ sheet_body ∙ told) (settles (Err v) k (refused v) told)

      module _ (u : SetUp) (k : BodyKept b body before (Ok u) after) where
        tree : BodyStands b p body u after
        tree = k.reply_is p

        pub tree_stands : SomeNode (Row after) a_move 0
        tree_stands = record { cell = tree.root.cell; under = nodes_of_waits tree.root.waits; at = tree.stands }

        pub text_held : (count next : ℕ) (out : List ℕ) → length after ≡ least_workspace → WeighsAny a_move after 0 count next out
            → length body ≤ length t → (g : Grid) → g.board ≡ b → SheetKept t before (Ok (record { grid = g; player = p; set_up = u })) out
        text_held count next out long w within g on =
            let weighs = w tree.root.cell (nodes_of_waits tree.root.waits) tree.stands in
            let reads = sheet_body ∙ tree.reads in
            let well = well_read t _ reads in
            record {
              reply_is =
                  record {
                    sheet = record { board = b; player = p; set_up = tree.set_up; root = tree.root };
                    reads = text_reads ∙ reads;
                    for = refl;
                    whole =
                        record {
                          tree = record { long = weighs_long weighs ∙ long; on = sym on; well = well; root = weighs_at weighs tree.stands };
                          set_up =
                              record {
                                stones = subst⁻¹ (λ (z : Board). HeldStones z tree.set_up u.stones.own u.stones.opp) on tree.held;
                                first_is = tree.first_is ∙ sym well.first_line_lem;
                                low = omega (arith, tree.first_low, within, short);
                              };
                        };
                  };
              table_is = weighs.table_is ∙ settles (Ok u) k _ tree.reads;
            }

-- the board of a first line that reads fits a set of cells
pub header_fits : (t : Bytes) (h : Header) (body : Bytes) → some (h, body) ≡ header_line t → Fits h.board
header_fits t h body e = size_fits (header_is t (h, body) (sym e)).1
