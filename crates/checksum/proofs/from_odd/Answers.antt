-- `checksum::from_odd` meets its contract: the sum so far with that of the bytes left is the sum of all, modulo 65,536.
use Rattle.std.proofs.Common.{◌≡◌, ◌*◌, ◌/◌, ◌<◌, length, arith}
use Rattle.checksum.proofs.Laws.{pair_at, pair_left, weighed_none, first_odd}
use Rattle.checksum.proofs.from_odd.Goals as goal

pub loop-pair-preserved : goal.loop-pair-preserved
loop-pair-preserved c =
    let i = c.loop-pair.pair-index in
    let s = c.args.s.now in
    let chunks = c.as_chunks.ensures in
    let less : i < length s / 2 = omega arith in
    let pair = rw (chunks.front, pair_at _ (length s / 2) i s less) at c.from_le_bytes-sum.ensures in
    omega (arith, pair_left s i (omega arith))

pub returns-in-len1 : goal.returns-in-len1
returns-in-len1 c =
    let l = c.loop-pair in
    let e : 2 * l.pair-index ≡ length c.args.s.now / 2 * 2 = omega arith in
    let over = rw (e, ← c.as_chunks.ensures.back) at l.invariant in
    omega (arith, first_odd c.as_chunks.result.1.now)

pub returns-in_default : goal.returns-in_default
returns-in_default c =
    let l = c.loop-pair in
    let e : 2 * l.pair-index ≡ length c.args.s.now / 2 * 2 = omega arith in
    let over = rw (e, ← c.as_chunks.ensures.back) at l.invariant in
    omega (arith, weighed_none 1 c.as_chunks.result.1.now)
