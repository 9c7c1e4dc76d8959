use Rattle.std.proofs.Common.{◌+◌, ◌-◌, length, drop, ap, sym, ◌∙◌, arith}
use Rattle.std.specs.Prelude.{position}
use Rattle.std.specs.Option.{option_map}
use Rattle.std.proofs.lemmas.List.{take_all, length-drop}
use Rattle.reo_growth.specs.Marks.{is_open_mark}
use Rattle.reo_growth.proofs.OpenLemmas.{position_from}
use Rattle.reo_growth.proofs.marks.first_open.Goals as goal

pub returns-in_err-later : goal.returns-in_err-later
returns-in_err-later c =
    let xs = c.args.automata.now in
    let whole = position_from is_open_mark xs c.skip_closed-from.result c.skip_closed-from.ensures.within c.skip_closed-from.ensures.before in
    let slice = take_all (length xs - c.skip_closed-from.result) (drop c.skip_closed-from.result xs) (omega (arith, length-drop c.skip_closed-from.result xs)) in
    c.from_residual.ensures ∙ sym (whole ∙ ap (option_map (λ k. c.skip_closed-from.result + k)) (ap (position is_open_mark) (sym slice) ∙ sym c.in_err-later.ensures))

pub returns : goal.returns
returns c =
    let xs = c.args.automata.now in
    let whole = position_from is_open_mark xs c.skip_closed-from.result c.skip_closed-from.ensures.within c.skip_closed-from.ensures.before in
    let slice = take_all (length xs - c.skip_closed-from.result) (drop c.skip_closed-from.result xs) (omega (arith, length-drop c.skip_closed-from.result xs)) in
    sym (whole ∙ ap (option_map (λ k. c.skip_closed-from.result + k)) (ap (position is_open_mark) (sym slice) ∙ sym c.in_ok-later.ensures))
