-- `packet::Walk::note` meets its contract.
use native.Mathlib.Omega.{arith}
use Rattle.packet.proofs.Noting.{note_tag}
use Rattle.packet.proofs.Walk.note.Goals as goal

pub returns : goal.returns
returns c = note_tag _ _ _ _ c.args.self.now.words (omega arith) c.requires
