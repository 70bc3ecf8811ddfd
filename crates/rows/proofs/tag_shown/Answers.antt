-- `rows::tag_shown` meets its contract.
use native.Mathlib.Omega.{arith}
use borrow.Author.Tests.{lt-ltb, le-ltb}
use Rattle.base.proofs.Cases.{by_lt}
use Rattle.rows.proofs.tag_shown.Goals as goal

pub returns-then-tag-lt2097152 : goal.returns-then-tag-lt2097152
returns-then-tag-lt2097152 c =
    let t = c.args.tag in
    by_lt 0 t (λ h. rw (lt-ltb 0 t h, lt-ltb t 2097152 c.if-tag-lt2097152.true)) (λ h. rw (le-ltb 0 t h) (omega arith))

pub returns : goal.returns
returns c = rw (lt-ltb 0 c.args.tag (omega arith), le-ltb c.args.tag 2097152 c.if-tag-lt2097152.false)
