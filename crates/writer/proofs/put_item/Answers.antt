-- `writer::put_item` meets its contract.
use Rattle.writer.proofs.Pieces.{header_room, room_behind, wrote_behind}
use Rattle.writer.proofs.Values.{said_size}
use Rattle.writer.proofs.put_item.Goals as goal

pub put_header-place-requires : goal.put_header-place-requires
put_header-place-requires c = (c.requires.0.tagged, header_room _ (said_size _ _ c.requires.0) c.requires.1)

pub put_value-requires : goal.put_value-requires
put_value-requires c = (c.requires.0, room_behind _ (said_size _ _ c.requires.0) c.requires.1 c.put_header-place.ensures)

pub returns : goal.returns
returns c = wrote_behind _ (said_size _ _ c.requires.0) c.requires.1 c.put_header-place.ensures c.put_value.ensures
