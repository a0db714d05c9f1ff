-- The reader accepts each shipped text, and its tree is what it reads: the definition of reading, computed. So a shipped description is its tree, and its rows are within their limit.
-- Assumes nothing.
use mathlib.Core.Path.{◌≡◌, refl, sym, ap, ◌∙◌, subst}
use Prim.Native.Nat.{◌≤◌}
use lib.Dec.{lit≤}
use lib.ListN.{length}
use Rattle.characters.specs.Characters.{run, run_end, same}
use Rattle.text_constants.specs.Constants.{number_at, decimal_at, marked_at, shortest_from, of_decimal, constant_at}
use Rattle.text_fields.specs.Fields.{lines, field, has_fields}
use Rattle.characters.specs.Named.{find}
use Rattle.text_names.specs.Names.{is_name}
use Rattle.text_operators.specs.OperatorNames.{find_in, operator_row}
use Rattle.text_tokens.specs.Tokens.{token_end, operator_at}
use Rattle.text_bit_parts.specs.References.{second_bit, first_bit, span_at, part_of, register_at, reference_at}
use Rattle.text_code.specs.Readings.{limited, of_reference, of_constant, not_of, closed, rotation_of, joined}
use Rattle.text_grammar.specs.Grammar.{level}
use Rattle.text_expression.specs.Expression.{whole, expression, of_name, of_address, memory_at, destination}
use Rattle.text_declaration.specs.Rows.{Description, pieces_of}
use Rattle.text_declaration.specs.Lines.{add_register, reg_line, add_label, at_line}
use Rattle.text_targets.specs.Targets.{passes, first_missing}
use Rattle.text_rows.specs.Lines.{add_row, add_do, do_line, add_go, go_line}
use Rattle.shipped_rows.specs.Variant.{Variant, plain, devices}
use Rattle.shipped_rows.specs.Text.{shipped_text}
use Rattle.shipped_rows.specs.Shipped.{described, shipped, most_shipped_rows}
use Rattle.shipped_rows.proofs.Tree.{tree}
use Rattle.text_description.specs.Description.{accepted, finished, read_lines, read_below, read_all, read_text}
use Rattle.text_description.specs.Line.{by_word, read_line}

pub shipped_accepted : (v : Variant) → read_text (shipped_text v) ≡ accepted (tree v)
unfolding run run_end same number_at decimal_at marked_at shortest_from of_decimal constant_at lines field has_fields is_name find find_in operator_row token_end
    operator_at second_bit first_bit span_at part_of register_at reference_at limited of_reference of_constant not_of closed rotation_of joined level whole
    expression of_name of_address memory_at destination add_register reg_line pieces_of add_row add_do do_line passes add_go go_line add_label at_line by_word read_line first_missing
    finished read_lines read_below read_all read_text shipped_text
shipped_accepted plain = refl
shipped_accepted devices = refl

pub shipped_is : (v : Variant) → shipped v ≡ tree v
unfolding shipped
shipped_is v = ap described (shipped_accepted v)

pub shipped_read : (v : Variant) → read_text (shipped_text v) ≡ accepted (shipped v)
shipped_read v = shipped_accepted v ∙ ap accepted (sym (shipped_is v))

tree_short : (v : Variant) → length (tree v).rows ≤ most_shipped_rows
tree_short plain = lit≤ tt
tree_short devices = lit≤ tt

pub shipped_short : (v : Variant) → length (shipped v).rows ≤ most_shipped_rows
shipped_short v = subst (λ (d : Description). length d.rows ≤ most_shipped_rows) (sym (shipped_is v)) (tree_short v)
