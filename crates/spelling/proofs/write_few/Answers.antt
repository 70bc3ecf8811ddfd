-- `spelling::write_few` meets its contract.
use native.Mathlib.Omega.{arith}
use Rattle.base.proofs.Putting.{room_of, wrote_as}
use Rattle.spelling.proofs.Digits.{decimal_one, decimal_two, decimal_three, decimal_four}
use Rattle.spelling.proofs.write_few.Goals as goal

pub write_digits-requires : goal.write_digits-requires
write_digits-requires c = room_of (decimal_one c.args.n (omega arith)) c.requires.1

pub returns-in-0-to-9 : goal.returns-in-0-to-9
returns-in-0-to-9 c = wrote_as (decimal_one c.args.n (omega arith)) c.write_digits.ensures

pub write_digits-requires-in-10-to-99 : goal.write_digits-requires-in-10-to-99
write_digits-requires-in-10-to-99 c = room_of (decimal_two c.args.n (omega arith) (omega arith)) c.requires.1

pub returns-in-10-to-99 : goal.returns-in-10-to-99
returns-in-10-to-99 c = wrote_as (decimal_two c.args.n (omega arith) (omega arith)) c.write_digits-in-10-to-99.ensures

pub write_digits-requires-in-100-to-999 : goal.write_digits-requires-in-100-to-999
write_digits-requires-in-100-to-999 c = room_of (decimal_three c.args.n (omega arith) (omega arith)) c.requires.1

pub returns-in-100-to-999 : goal.returns-in-100-to-999
returns-in-100-to-999 c = wrote_as (decimal_three c.args.n (omega arith) (omega arith)) c.write_digits-in-100-to-999.ensures

pub write_digits-requires-in_default : goal.write_digits-requires-in_default
write_digits-requires-in_default c = room_of (decimal_four c.args.n (omega arith) (omega arith)) c.requires.1

pub returns-in_default : goal.returns-in_default
returns-in_default c = wrote_as (decimal_four c.args.n (omega arith) (omega arith)) c.write_digits-in_default.ensures
