use Rattle.reo_document.proofs.BuilderLemmas.{no_room}
use Rattle.reo_document.proofs.builder.Builder.is_full.Goals as goal

pub returns : goal.returns
returns c = no_room c.args.self.now.room c.args.self.now.scripts.items c.requires.left
