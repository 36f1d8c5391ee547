-- The fold's number is 0 just where no number is another.
use Rattle.std.proofs.Common.{◌≡◌, ℕ, Bor, rules, bit_or}
use Rattle.std.proofs.lemmas.Fn.{fronts, fold_over}
use Rattle.std.proofs.lemmas.Iterator.{YieldsList-from_slice}
use lib.Bits.{bit_xor}
use Rattle.replies.proofs.Looking.{Looked, looked_none, looked_more, looked_all}
use Rattle.replies.proofs.lent.all_are.Goals as goal

pub returns : goal.returns
returns c =
    looked_all
    (fold_over fronts (λ (y : Bor ℕ). y.now) _ (Looked c.args.value) _
    (λ ys a x b f h k. let e : b ≡ bit_or a (bit_xor x.now c.args.value) = search rules in (rw e (looked_more x.now h), search rules))
    c.iter.result c.args.memory.now 0 c.fold.result (YieldsList-from_slice {s = c.iter.result} c.args.memory.now (search rules)).runs looked_none c.fold.ensures.ran)
