use Rattle.std.proofs.Common.{ℕ, List, ap, ◌∙◌, subst}
use Rattle.reo_net.specs.Checks.{IsChecked}
use Rattle.reo_net.specs.declared.circuit.RawCircuit.{RawCircuit}
use Rattle.reo_cut.specs.Cut.{IsCut}
use Rattle.reo_document.specs.Document.{circuit_of}
use Rattle.reo_picture.specs.Picture.{picture_text}
use Rattle.reo_draw.proofs.call.picture.Goals as goal

pub returns : goal.returns
returns c =
    let d = c.args.document.now in
    let cut = c.in_ok-cut.cut in
    record {
      checked = subst IsChecked c.requires c.nodes.ensures.checked;
      cut = cut;
      is_cut = subst (λ (n : RawCircuit). IsCut n cut) c.requires c.in_ok-cut.ensures.exact;
      told =
          c.in_ok-text.ensures.text ∙ ap (λ (n : RawCircuit). picture_text n c.nodes-2.result.now c.texts.result.now cut) c.requires
          ∙ ap (λ (nodes : List (List ℕ)). picture_text (circuit_of d) nodes c.texts.result.now cut) c.nodes-2.ensures.nodes
          ∙ ap (λ (texts : List (List ℕ)). picture_text (circuit_of d) d.nodes texts cut) c.texts.ensures.texts;
    }
