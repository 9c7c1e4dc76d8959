use Rattle.std.proofs.Common.{◌≡◌, ℕ, List, length, sym, ap, ◌∙◌, subst, arith}
use Rattle.std.specs.List.{filter_map}
use Rattle.reo_net.specs.declared.circuit.Channel.{Channel}
use Rattle.reo_net.specs.declared.circuit.Port.{Port}
use Rattle.reo_net.specs.declared.circuit.RawCircuit.{RawCircuit}
use Rattle.reo_document.specs.Document.{circuit_of, channel_in, port_in}
use Rattle.reo_net.specs.Checks.{HasKnownNumbers}
use Rattle.reo_document.proofs.DocumentLemmas.{spelled_document}
use Rattle.reo_document.proofs.document.Document.circuit.Goals as goal

same_circuit : (n m texts more : ℕ) (cs ds : List Channel) (ps qs : List Port) → n ≡ m → texts ≡ more → cs ≡ ds → ps ≡ qs
    → ◌≡◌ {A = RawCircuit} (record { nodes = n; texts = texts; channels = cs; ports = ps }) (record { nodes = m; texts = more; channels = ds; ports = qs })
same_circuit n m texts more cs ds ps qs nodes same channels ports = cc

pub returns-clause-circuit : goal.returns-clause-circuit
returns-clause-circuit c =
    same_circuit _ _ _ _ _ _ _ _ c.len.ensures.len c.len-2.ensures.len (c.in_ok-channels.ensures ∙ ap (filter_map channel_in) c.as_slice.ensures.value) (c.in_ok-ports.ensures ∙ ap (filter_map port_in) c.as_slice-2.ensures.value)
    ∙ ap circuit_of c.self.view_is

pub returns-clause-is_circuit : goal.returns-clause-is_circuit
returns-clause-is_circuit c =
    let is : ◌≡◌ {A = RawCircuit} (record { nodes = c.len.result; texts = c.len-2.result; channels = c.in_ok-channels.channels; ports = c.in_ok-ports.ports })
    (record { nodes = length c.self.inside.nodes; texts = length c.self.inside.texts; channels = filter_map channel_in c.self.inside.lines.items; ports = filter_map port_in c.self.inside.lines.items }) =
    same_circuit _ _ _ _ _ _ _ _ c.len.ensures.len c.len-2.ensures.len (c.in_ok-channels.ensures ∙ ap (filter_map channel_in) c.as_slice.ensures.value) (c.in_ok-ports.ensures ∙ ap (filter_map port_in) c.as_slice-2.ensures.value) in
    record {
      few_nodes = omega (arith, c.len.ensures.len, c.len.ensures.few);
      few_texts = omega (arith, c.len-2.ensures.len, c.len-2.ensures.few);
      known = subst HasKnownNumbers (sym is) (spelled_document c.self.invariant.bytes _ c.self.invariant.spells).known;
    }
