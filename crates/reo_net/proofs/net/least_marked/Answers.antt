use Rattle.std.proofs.Common.{◌≡◌, ℕ, ◌+◌, Bool, false, arith, length, sym, ◌∙◌, subst, get_or, ap, List, Bor}
use Rattle.std.proofs.lemmas.Option.{slice_get-get_or}
use Rattle.reo_value.specs.declared.op.Way.TheVariants.{Put}
use Rattle.reo_net.specs.declared.circuit.Port.{Port}
use Rattle.reo_graph.specs.Paths.{IsLeast}
use Rattle.reo_net.specs.Tables.{IsPassBelow, table_for, is_marked}
use Rattle.reo_net.proofs.TableLemmas.{least_pass-hit, least_pass-miss}
use Rattle.reo_net.proofs.net.least_marked.Goals as goal
use Rattle.reo_net.proofs.net.least_marked.Goals.{in-Put, in-Get, then-table-port, else-table-port}

pub loop-port-preserved : goal.loop-port-preserved
loop-port-preserved c =
    let xs = c.args.ports.now in
    let i = c.loop-port.port-index in
    let d : Port = record { node = 0; way = Put } in
    let x = get_or xs i d in
    let here = slice_get-get_or xs i d c.loop-port-test.true in
    let sinks = c.args.sinks.now in
    let sources = c.args.sources.now in
    let key : Port → ℕ = λ port. port.node in
    let test = is_marked sinks sources in
    let Q = IsPassBelow key test xs (i + 1) in
    let table : c.match-port.table.now ≡ table_for x.way sinks sources =
    elim c.match-port.branch [ in-Put w ↦ ap (λ (t : Bor (List Bool)). t.now) w.table-is ∙ ap (λ way. table_for way sinks sources) (sym w.in-Put.is) | in-Get w ↦ ap (λ (t : Bor (List Bool)). t.now) w.table-is ∙ ap (λ way. table_for way sinks sources) (sym w.in-Get.is) ] in
    let read = ap (λ t. get_or t x.node false) table in
    elim c.if-table-port.branch [
      | then-table-port w ↦ subst (IsLeast Q) (sym w.least-is) (least_pass-hit key test xs i x c.loop-port.least w.lesser.result here (sym read ∙ w.if-table-port.true) c.loop-port.invariant w.lesser.ensures)
      | else-table-port w ↦ subst (IsLeast Q) (sym w.least-is) (least_pass-miss key test xs i x c.loop-port.least here (sym read ∙ w.if-table-port.false) c.loop-port.invariant)
    ]

pub returns : goal.returns
returns c =
    let all : c.loop-port.port-index ≡ length c.args.ports.now = omega arith in
    subst (λ i. IsLeast (IsPassBelow (λ port. port.node) (is_marked c.args.sinks.now c.args.sources.now) c.args.ports.now i) c.loop-port.least) all c.loop-port.invariant
