-- `tagset::with_tag` meets its contract.
use Prim.Native.Nat.{◌-◌}
use native.Mathlib.Omega.{arith}
use borrow.Author.Tests.{lt-ltb, le-ltb}
use Rattle.tagset.specs.Sets.{with_tag}
use Rattle.tagset.proofs.Words.{one_shl}
use Rattle.tagset.proofs.with_tag.Goals as goal

pub returns-then-tag-lt64 : goal.returns-then-tag-lt64
unfolding with_tag
returns-then-tag-lt64 c = rw (lt-ltb _ _ c.if-tag-lt64.true, one_shl _ c.if-tag-lt64.true)

pub returns-then-tag-lt128 : goal.returns-then-tag-lt128
unfolding with_tag
returns-then-tag-lt128 c = rw (le-ltb _ _ c.if-tag-lt64.false, lt-ltb _ _ c.if-tag-lt128.true, one_shl (c.args.tag - 64) (omega arith))

pub returns : goal.returns
unfolding with_tag
returns c = rw (le-ltb _ _ c.if-tag-lt64.false, le-ltb _ _ c.if-tag-lt128.false)
