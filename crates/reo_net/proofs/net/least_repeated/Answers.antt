use Rattle.std.proofs.Common.{◌≡◌, ℕ, ◌+◌, false, arith, length, sym, ◌∙◌, subst, ◌<◌, get_or}
use Rattle.std.proofs.lemmas.Bool.{false≢true}
use Rattle.std.proofs.lemmas.Option.{slice_get-get_or}
use Rattle.std.proofs.lemmas.List.{get_or_read}
use Rattle.reo_value.specs.declared.op.Way.TheVariants.{Put}
use Rattle.reo_net.specs.declared.circuit.Port.{Port}
use Rattle.reo_graph.specs.Paths.{IsLeast}
use Rattle.reo_net.specs.Tables.{IsKeyTwiceBelow}
use Rattle.reo_net.proofs.TableLemmas.{Marks-more, least_twice-hit, least_twice-miss}
use Rattle.reo_net.proofs.net.least_repeated.Goals as goal
use Rattle.reo_net.proofs.net.least_repeated.Goals.{then-index, else-index}

pub loop-port-preserved : goal.loop-port-preserved
loop-port-preserved c =
    let xs = c.args.ports.now in
    let i = c.loop-port.port-index in
    let d : Port = record { node = 0; way = Put } in
    let x = get_or xs i d in
    let within = c.loop-port-test.true in
    let here = slice_get-get_or xs i d within in
    let fits : x.node < c.args.nodes = c.requires i d within in
    let marks = c.loop-port.invariant.marks in
    let read = get_or_read c.loop-port.seen.items x.node c.index.result.now (omega (arith, marks.len)) c.index.ensures false in
    let seen = marks.each x.node fits in
    let key : Port → ℕ = λ port. port.node in
    let Q = IsKeyTwiceBelow key xs (i + 1) in
    record {
      marks = Marks-more (λ port. port.node) xs c.loop-port.seen.items c.args.nodes i x here fits marks;
      least = elim c.if-index.branch [
        | then-index w ↦ subst (IsLeast Q) (sym w.least-is) (least_twice-hit key xs i x c.loop-port.least w.lesser.result here (seen.0 (sym read ∙ w.if-index.true)) c.loop-port.invariant.least w.lesser.ensures)
        | else-index w ↦ subst (IsLeast Q) (sym w.least-is) (least_twice-miss key xs i x c.loop-port.least here (λ at. absurd (false≢true (sym w.if-index.false ∙ (read ∙ seen.1 at)))) c.loop-port.invariant.least)
      ];
    }

pub returns : goal.returns
returns c =
    let all : c.loop-port.port-index ≡ length c.args.ports.now = omega arith in
    subst (λ i. IsLeast (IsKeyTwiceBelow (λ port. port.node) c.args.ports.now i) c.loop-port.least) all c.loop-port.invariant.least
