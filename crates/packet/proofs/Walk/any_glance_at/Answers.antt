-- `packet::Walk::any_glance_at` meets its contract.
use mathlib.Core.Path.{sym}
use native.Mathlib.Omega.{arith}
use Rattle.packet.proofs.Walks.{header_lies}
use Rattle.packet.proofs.Walk.any_glance_at.Goals as goal

pub is_fit-requires : goal.is_fit-requires
is_fit-requires c = (header_lies _ _ c.args.self.now.bytes _ (sym c.in-Ok.ensures)).inside

pub found_at-requires : goal.found_at-requires
found_at-requires c = let l = header_lies _ _ c.args.self.now.bytes _ (sym c.in-Ok.ensures) in omega (arith, l.inside)

pub overflow_add-result : goal.overflow_add-result
overflow_add-result c = let l = header_lies _ _ c.args.self.now.bytes _ (sym c.in-Ok.ensures) in omega (arith, l.inside)

pub longer_by-requires : goal.longer_by-requires
longer_by-requires c = (header_lies _ _ c.args.self.now.bytes _ (sym c.in-Ok.ensures)).formed

pub returns : goal.returns
returns c =
    record {
      header = c.in-Ok.item;
      found = sym c.in-Ok.ensures;
      same = rw (c.one_byte.ensures, c.found_at.ensures, c.longer_by.ensures);
      fits = c.is_fit.ensures;
    }
