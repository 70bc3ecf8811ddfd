-- `packet::Walk::pass` meets its contract.
use native.Mathlib.Omega.{arith}
use mathlib.Core.Path.{ap}
use Rattle.knowing.proofs.Laws.{good_means}
use Rattle.packet.proofs.Noting.{two_set}
use Rattle.packet.proofs.Walks.{last_none}
use Rattle.packet.proofs.Passing.{going_on, going_glance, glanced_on, glanced_room}
use Rattle.packet.proofs.Walk.pass.Goals as goal

pub returns-then-last_byte-passed : goal.returns-then-last_byte-passed
returns-then-last_byte-passed c =
    let g = going_on _ _ _ _ _ c.loop-passed.invariant c.pass_plain-passed.ensures in
    record {
      few = g.counted.few;
      goes = g.goes;
      stops = λ h. record { before = h; few = g.counted.few; none = λ other. last_none _ _ c.args.self.now.bytes (omega arith) };
    }

pub returns-then-passed-eq128 : goal.returns-then-passed-eq128
returns-then-passed-eq128 c =
    let g = going_on _ _ _ _ _ c.loop-passed.invariant c.pass_plain-passed.ensures in
    record {
      few = g.counted.few;
      goes = g.goes;
      stops = λ h. record { before = h; few = g.counted.few; none = λ other. absurd (other c.if-passed-eq128.true) };
    }

pub keep_close-passed-requires : goal.keep_close-passed-requires
keep_close-passed-requires c =
    let s = c.args.self.now in
    let w = two_set s.words in
    let g = going_on _ _ _ _ _ c.loop-passed.invariant c.pass_plain-passed.ensures in
    let t = going_glance _ (good_means _ w s.knows) w _ s.bytes _ _ g (omega arith) c.if-passed-eq128.false _ c.in-Some.ensures in
    glanced_room s.bytes s.short g.counted c.in-Some.ensures t.counted.less

pub loop-passed-smaller : goal.loop-passed-smaller
loop-passed-smaller c =
    let on = c.pass_plain-passed.ensures.on in
    omega (arith, on, glanced_on c.args.self.now.bytes c.in-Some.ensures, ap (λ k. k.passed.here) c.keep_close-passed.ensures)

pub loop-passed-preserved : goal.loop-passed-preserved
loop-passed-preserved c =
    let s = c.args.self.now in
    let w = two_set s.words in
    let g = going_on _ _ _ _ _ c.loop-passed.invariant c.pass_plain-passed.ensures in
    rw c.keep_close-passed.ensures (going_glance _ (good_means _ w s.knows) w _ s.bytes _ _ g (omega arith) c.if-passed-eq128.false _ c.in-Some.ensures)

pub returns : goal.returns
returns c =
    let g = c.loop-passed.invariant in
    record {
      few = g.counted.few;
      goes = g.goes;
      stops = λ h. record { before = h; few = g.counted.few; none = λ _. last_none _ _ c.args.self.now.bytes (omega arith) };
    }
