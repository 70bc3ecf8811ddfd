-- `outgoing::Table::items_size` meets its contract.
use Prim.Native.Nat.{ℕ, zero, suc, ◌+◌}
use native.Mathlib.Nat.{sub-zero}
use native.Mathlib.Omega.{arith}
use mathlib.Core.Path.{◌≡◌, refl, ◌∙◌}
use mathlib.Core.List.{List}
use Rattle.std.specs.List.{fold, sum_by, range_with_len}
use Rattle.std.proofs.Common.{rules}
use borrow.Author.Tests.{tests}
use Rattle.std.proofs.lemmas.Iterator.{YieldsList-from_range, YieldsList-from_map}
use Rattle.std.proofs.lemmas.Iterator.Consumers.{YieldsList-at, sum_by_from_yields_List, fits_by_from_yields_list}
use Rattle.rows.specs.Taken.{row_at}
use Rattle.packet.specs.Rows.{rows_in}
use Rattle.outgoing.specs.code.Staged.{row_size, rows_size}
use Rattle.outgoing.proofs.Walked.{rows_small}
use Rattle.outgoing.proofs.Table.items_size.Goals as goal

-- the size of a row's item by the row's number, and the sum of some
size_at : List ℕ → ℕ → ℕ
size_at words n = row_size (row_at words n)

sum_after : (words : List ℕ) (a k n : ℕ)
    → fold (λ b x. b + size_at words x) a (range_with_len k n) ≡ a + rows_size (rows_in k n words)
unfolding size_at rows_in rows_size
sum_after words a k zero = omega arith
sum_after words a k (suc n) =
    let e : k + 1 ≡ suc k = omega arith in
    rw e (sum_after words (a + size_at words k) (suc k) n ∙ omega arith)

sum_rows : (words : List ℕ) (n : ℕ) → sum_by (size_at words) (range_with_len 0 n) ≡ rows_size (rows_in 0 n words)
sum_rows words n = sum_after words 0 0 n ∙ omega arith

pub sum-requires-clause-fits : goal.sum-requires-clause-fits
unfolding size_at
sum-requires-clause-fits c =
    let t = c.args.self.now in
    fits_by_from_yields_list _ _ c.map.result _
    (YieldsList-from_map _ (size_at t.words.now)
    (YieldsList-at c.map.ensures.source (YieldsList-from_range 0 t.count t.count refl (sub-zero _)))
    c.map.ensures.closure (λ x r q k. search (rules, tests)))
    (omega (arith, sum_rows t.words.now t.count, rows_small 0 t.count t.words.now, t.few))

pub returns : goal.returns
unfolding size_at
returns c =
    let t = c.args.self.now in
    sum_by_from_yields_List _ _ c.map.result _ c.sum.ensures.ran
    (YieldsList-from_map _ (size_at t.words.now)
    (YieldsList-at c.map.ensures.source (YieldsList-from_range 0 t.count t.count refl (sub-zero _)))
    c.map.ensures.closure (λ x r q k. search (rules, tests)))
    ∙ sum_rows t.words.now t.count
