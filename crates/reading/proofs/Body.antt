-- A body that was read: what rules' `read_body` comes to, from what was stored.
use mathlib.Core.Path.{◌≡◌, refl, sym, ap, ◌∙◌, subst, subst⁻¹}
use Prim.Native.Nat.{ℕ, ◌+◌}
use native.Mathlib.Omega.{arith}
use mathlib.Core.List.{List, [], ◌∷◌}
use mathlib.Core.Logic.{◌≢◌}
use lib.ListN.{length}
use Rattle.std.specs.Prelude.{Ok, Err}
use Rattle.std.specs.Prelude as code
use Rattle.rules.specs.Sizes.{most_depth, least_workspace}
use Rattle.rules.specs.Text.{Bytes, ◌or_else◌}
use Rattle.rules.specs.Lines.{move_line, dash_line}
use Rattle.rules.specs.Tree.{Move, Stone}
use Rattle.rules.specs.Reading as R
use Rattle.rules.specs.Reading.{Result, refused, got, read_move, ended, read_set_up, read_tree, planted, read_body}
use Rattle.rules.specs.declared.Board.{Board}
use Rattle.rules.specs.declared.LineKind.TheVariants as K
use Rattle.rules.specs.declared.Player.{Player}
use Rattle.rules.specs.declared.Verdict.{Verdict}
use Rattle.rules.specs.declared.Verdict.TheVariants.{TextAfter}
use Rattle.rules.proofs.Steps.{not_refused, got_inj}
use Rattle.nodes.specs.Nodes as N
use Rattle.nodes.specs.Nodes.{nodes_of_waits}
use Rattle.nodes.specs.Table.{Row, At}
use Rattle.nodes.specs.declared.head.Stones.{Stones}
use Rattle.reading.specs.Spots.{spot_of}
use Rattle.reading.specs.Storing.{Stored, store_node}
use Rattle.reading.specs.SetUp.{SetUpGot}
use Rattle.reading.specs.Kept.{ReadKept, tree_from, TreeKept, stored_after, BodyKept}
use Rattle.reading.specs.declared.spot.Spot.{Spot}
use Rattle.reading.proofs.Standing.{OneSame, MoveSame, moves_same}

-- what `read_move` gave for the root, beside what was stored
module _ (b : Board) (start : Spot) (t : List ℕ) (no_nodes : start.nodes ≡ 0) (long : length t ≡ least_workspace) where
  whole : Stored
  whole = store_node most_depth K.First b (spot_of start) t

  root_read : Result (Move × R.Spot)
  root_read = read_move most_depth b (move_line or_else dash_line) (spot_of start)

  root_same : MoveSame t 0 root_read whole
  unfolding root_read whole
  root_same =
      subst (λ (n : ℕ). MoveSame t n root_read whole) no_nodes
      (moves_same most_depth K.First refl b (spot_of start) t (record { few = start.few; long = long }))

  -- refused where storing is
  root_refused : (v : Verdict) → whole.reply ≡ refused v → root_read ≡ refused v
  unfolding OneSame
  root_refused v e = go root_read refl root_same
    where
      go : (r : Result (Move × R.Spot)) → root_read ≡ r → MoveSame t 0 r whole → root_read ≡ refused v
      go (refused w) q h = cc
      go (got x) q h = absurd (not_refused (sym e ∙ h.reply_is))

  -- read where storing went through, and then the table holds it
  root_got : (u : R.Spot) → whole.reply ≡ got u → (m : Move) × (root_read ≡ got (m, u)) × At (Row whole.table) N.a_move 0 m.cell (nodes_of_waits m.waits)
  unfolding OneSame
  root_got u e = go root_read refl root_same
    where
      go : (r : Result (Move × R.Spot)) → root_read ≡ r → MoveSame t 0 r whole
          → (m : Move) × (root_read ≡ got (m, u)) × At (Row whole.table) N.a_move 0 m.cell (nodes_of_waits m.waits)
      go (refused w) q h = absurd (not_refused (sym h ∙ e))
      go (got x) q h = (x.0, (let same : x.1 ≡ u = got_inj (sym h.reply_is ∙ e) in q ∙ ap (λ (z : R.Spot). got (x.0, z)) same), h.stands)

  -- the text ends with the tree, or goes on
  tree_ends : (p : Player) (cs : List Stone) (m : Move) (u : R.Spot) → root_read ≡ got (m, u) → u.text ≡ []
      → tree_from b p cs (spot_of start) ≡ got (record { board = b; player = p; set_up = cs; root = m })
  unfolding ended root_read
  tree_ends p cs m u e h = rw (e, h, ended)

  tree_goes_on : (p : Player) (cs : List Stone) (m : Move) (u : R.Spot) → root_read ≡ got (m, u) → u.text ≢ []
      → tree_from b p cs (spot_of start) ≡ refused (TextAfter u.line)
  unfolding ended root_read
  tree_goes_on p cs m u e h = go u.text refl
    where
      go : (l : Bytes) → u.text ≡ l → tree_from b p cs (spot_of start) ≡ refused (TextAfter u.line)
      go [] q = absurd (h q)
      go (x ∷ l) q = rw (e, q, ended)

  module _ (t' : List ℕ) where
    pub tree_refused : (v : Verdict) → ReadKept (store_node most_depth K.First b (spot_of start) t) (Err v) t' → TreeKept b start t (Err v) t'
    unfolding ended whole root_read
    tree_refused v k = record { reply_is = λ p cs. rw (root_refused v (sym k.reply_is)); table_is = k.table_is }

    module _ (u : Spot) (k : ReadKept (store_node most_depth K.First b (spot_of start) t) (Ok u) t') where
      read : (m : Move) × (root_read ≡ got (m, spot_of u)) × At (Row whole.table) N.a_move 0 m.cell (nodes_of_waits m.waits)
      unfolding whole
      read = root_got (spot_of u) (sym k.reply_is)

      pub tree_before_text : u.text.now ≢ [] → TreeKept b start t (Err (TextAfter u.line)) t'
      tree_before_text h = record { reply_is = λ p cs. tree_goes_on p cs read.0 (spot_of u) read.1 h; table_is = k.table_is }

      pub tree_got : u.text.now ≡ [] → TreeKept b start t (Ok tt) t'
      unfolding whole
      tree_got h =
          record {
            reply_is =
                λ p cs.
                record {
                  root = read.0;
                  reads = tree_ends p cs read.0 (spot_of u) read.1 h;
                  stands = subst⁻¹ (λ (z : List ℕ). At (Row z) N.a_move 0 read.0.cell (nodes_of_waits read.0.waits)) k.table_is read.2;
                };
            table_is = k.table_is;
          }

-- the body: its set-up lines, then its tree
module _ (b : Board) (body : Bytes) (t : List ℕ) where
  pub set_up_refused : (v : Verdict) → read_set_up (length body) b [] body ≡ refused v → BodyKept b body t (Err v) t
  unfolding read_body planted stored_after
  set_up_refused v s = record { reply_is = λ p. rw (s, planted); table_is = rw (s, stored_after) }

  module _ (start : Spot) (stones : Stones) (g : SetUpGot b body start stones) where
    spot_is : spot_of start ≡ record { text = start.text.now; line = length g.set_up + 2; nodes = 0 }
    spot_is =
        ap (λ (n : ℕ). record { text = start.text.now; line = n; nodes = start.nodes }) g.line_is
        ∙ ap (λ (n : ℕ). record { text = start.text.now; line = length g.set_up + 2; nodes = n }) g.no_nodes_lem

    body_is : (p : Player) → read_body (record { board = b; player = p }) body ≡ tree_from b p g.set_up (spot_of start)
    unfolding read_body planted read_tree
    body_is p = ap (planted (record { board = b; player = p })) g.reads ∙ ap (λ (z : R.Spot). tree_from b p g.set_up z) (sym spot_is)

    module _ (t' : List ℕ) where
      table_after : (r : code.Result (Unit {0}) Verdict) → TreeKept b start t r t' → t' ≡ stored_after b t (read_set_up (length body) b [] body)
      unfolding stored_after
      table_after r k =
          k.table_is ∙ ap (λ (z : R.Spot). (store_node most_depth K.First b z t).table) spot_is ∙ ap (stored_after b t) (sym g.reads)

      pub body_refused : (v : Verdict) → TreeKept b start t (Err v) t' → BodyKept b body t (Err v) t'
      body_refused v k = record { reply_is = λ p. body_is p ∙ k.reply_is p g.set_up; table_is = table_after (Err v) k }

      pub body_got : TreeKept b start t (Ok tt) t' → BodyKept b body t (Ok (record { stones = stones; first = start.line })) t'
      body_got k =
          record {
            reply_is =
                λ p.
                let s = k.reply_is p g.set_up in
                record {
                  set_up = g.set_up;
                  root = s.root;
                  reads = body_is p ∙ s.reads;
                  stands = s.stands;
                  first_is = g.line_is;
                  first_low = omega (arith, g.line_low);
                  held = g.held;
                };
            table_is = table_after (Ok tt) k;
          }
