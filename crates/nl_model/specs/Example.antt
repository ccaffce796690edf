-- A tree with a power, a least and a ceiling: base ^ exponent + min(4, ceil(-7.5)).
use Rattle.std.specs.Prelude.{pos, negsuc}
use Rattle.code_tables.specs.declared.class.OpClass.TheVariants.{Sum, Power, Least, Ceiling}
use Rattle.nl_model.specs.Trees.{Tree, number, operator, none, more}

abbrev pub power_and_least : Tree → Tree → Tree
power_and_least base exponent =
    operator Sum (more (operator Power (more base (more exponent none)))
    (more (operator Least (more (number (pos 4) (pos 0))
    (more (operator Ceiling (more (number (negsuc 74) (negsuc 0)) none)) none))) none))
