use Rattle.std.proofs.Common.{length, refl}
use Rattle.reo_token.specs.Cut.{IsWithin}
use Rattle.reo_sentence.specs.Seen.{seen, IsQuoted}
use Rattle.reo_sentence.proofs.ListLemmas.{cons_of, All-others}
use Rattle.reo_sentence.proofs.cursor.Cursor.advance.Goals as goal

pub invariant_of-self : goal.invariant_of-self
invariant_of-self c = record {
  within = All-others (IsWithin (length c.args.self.now.line.now)) c.args.self.now.rest.now c.requires c.args.self.now.within;
  quoted = All-others (IsQuoted c.args.self.now.line.now) c.args.self.now.rest.now c.requires c.args.self.now.quoted;
  utf8 = c.args.self.now.utf8;
}

pub returns : goal.returns
returns c =
    let cons = cons_of c.args.self.now.rest.now c.requires in
    record { token = seen c.args.self.now.line.now cons.0; takes = record { cut = cons.0; rest = cons.1; is = refl; line = refl; wide = refl; long = refl } }
