-- `walker::code_of` meets its contract.
use mathlib.Core.Path.{sym, ◌∙◌}
use Rattle.walker.proofs.Rows.{code_by, number_code}
use Rattle.walker.proofs.code_of.Goals as goal

pub returns-in-Number : goal.returns-in-Number
returns-in-Number c =
    code_by _ _ _ _ _ c.in-Number.is
    (c.value.ensures ∙ sym (number_code c.in-Number.least c.in-Number.most c.in-Number.marked c.args.value.now))
