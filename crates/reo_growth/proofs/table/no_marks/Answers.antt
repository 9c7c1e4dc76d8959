use Rattle.std.proofs.Common.{◌∙◌, sym, ap, replicate}
use Rattle.reo_growth.specs.declared.marks.Mark.TheVariants.{Absent}
use Rattle.reo_growth.proofs.TableLemmas.{automaton_marks_of_none, name_marks_of_none}
use Rattle.reo_growth.proofs.table.no_marks.Goals as goal

pub returns : goal.returns
returns c =
    let w = c.args.web.now in
    record {
      automata = c.in_ok-automata.ensures ∙ ap (λ n. replicate n Absent) c.len.ensures ∙ sym (automaton_marks_of_none w);
      names = c.in_ok-names.ensures ∙ sym (name_marks_of_none w);
    }
