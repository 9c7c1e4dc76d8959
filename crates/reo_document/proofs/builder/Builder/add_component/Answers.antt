use Rattle.std.proofs.Common.{◌∷◌, [], ◌++◌, sym, ap, ◌∙◌}
use Rattle.reo_document.specs.Builder.{owner_of}
use Rattle.reo_document.proofs.BuilderLemmas.{with_people, same_room}
use Rattle.reo_document.proofs.OwnerLemmas.{owner_of-empty}
use Rattle.reo_document.proofs.builder.Builder.add_component.Goals as goal

pub returns-clause-exact : goal.returns-clause-exact
returns-clause-exact c =
    with_people c.args.self.now.lines.items c.args.self.now.nodes c.args.self.now.texts c.args.self.now.people _ c.args.self.now.scripts.items _ c.args.name.now c.in_ok-number.ensures.names (c.in_ok-push.ensures.items ∙ ap (λ s. c.args.self.now.scripts.items ++ s ∷ []) c.new.ensures)

pub returns-clause-scripts : goal.returns-clause-scripts
returns-clause-scripts c =
    let grown = c.in_ok-push.ensures.items ∙ ap (λ s. c.args.self.now.scripts.items ++ s ∷ []) c.new.ensures in
    record {
      first = λ port. c.requires.scripts.first port ∙ sym (owner_of-empty c.args.self.now.scripts.items port) ∙ ap (λ scripts. owner_of scripts port) (sym grown);
      left = same_room c.args.self.now.scripts.items _ c.args.self.now.room grown c.requires.scripts.left;
    }
