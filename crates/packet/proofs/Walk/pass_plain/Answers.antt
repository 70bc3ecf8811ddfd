-- `packet::Walk::pass_plain` meets its contract.
use native.Mathlib.Omega.{arith}
use mathlib.Core.Path.{ap}
use Rattle.knowing.proofs.Laws.{good_means}
use Rattle.packet.proofs.Noting.{two_set}
use Rattle.packet.proofs.Passing.{going_plain, glanced_on, glanced_room}
use Rattle.packet.proofs.Walk.pass_plain.Goals as goal

pub keep-passed-requires : goal.keep-passed-requires
keep-passed-requires c =
    let s = c.args.self.now in
    let w = two_set s.words in
    let t = going_plain _ (good_means _ w s.knows) w _ s.bytes _ _ c.loop-passed.invariant (omega arith) c.if-passed-eq128.false _ c.in-Some.ensures in
    glanced_room s.bytes s.short c.loop-passed.invariant.counted c.in-Some.ensures.seen t.counted.less

pub loop-passed-smaller : goal.loop-passed-smaller
loop-passed-smaller c =
    omega (arith, glanced_on c.args.self.now.bytes c.in-Some.ensures.seen, ap (λ k. k.passed.here) c.keep-passed.ensures)

pub loop-passed-preserved : goal.loop-passed-preserved
loop-passed-preserved c =
    let s = c.args.self.now in
    let w = two_set s.words in
    rw c.keep-passed.ensures (going_plain _ (good_means _ w s.knows) w _ s.bytes _ _ c.loop-passed.invariant (omega arith) c.if-passed-eq128.false _ c.in-Some.ensures)
