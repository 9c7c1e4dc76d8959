-- the template of an automaton by its number
use Rattle.std.proofs.Common.{◌≡◌, ℕ, ◌+◌, ◌-◌, ◌<◌, ◌≤◌, List, [], ◌∷◌, length, slice_get, get_or, cond, Some, sym, ap, ◌∙◌, subst}
use Rattle.std.proofs.lemmas.Bool.{lt-ltb, le-ltb}
use Rattle.std.proofs.lemmas.Option.{slice_get-get_or}
use Rattle.reo_net.specs.declared.circuit.Channel.{Channel}
use Rattle.reo_net.specs.declared.circuit.RawCircuit.{RawCircuit}
use Rattle.reo_net.specs.Names.{end_a, end_b}
use Rattle.reo_net.specs.Regions.{OfChannel, OfNode}
use Rattle.reo_automata.specs.declared.template.Template.{Template}
use Rattle.reo_automata.specs.Links.{channel_links, node_names, node_links}
use Rattle.reo_automata.specs.Template.{automaton_of, IsTemplate}
use Rattle.reo_automata.proofs.ChannelLaw.{channel_is_template}
use Rattle.reo_automata.proofs.NodeLaw.{node_is_template}

module _ (c : RawCircuit) (number : ℕ) (t : Template) where
  pub of_channel : (channels : List Channel) (d : Channel) (a : ℕ) → channels ≡ c.channels → number < length channels → a ≡ end_a c number
      → t ≡ record { names = a ∷ (a + 1) ∷ []; links = channel_links (get_or channels number d).kind a } → IsTemplate c (automaton_of c number) t
  of_channel channels d a same below named is =
      let channel = get_or channels number d in
      let found = subst (λ chs. slice_get chs number ≡ Some channel) same (slice_get-get_or channels number d below) in
      let at = channel_is_template c number channel.kind channel.a channel.b found in
      subst (IsTemplate c (automaton_of c number)) (sym (is ∙ ap (λ e. record { names = e ∷ (e + 1) ∷ []; links = channel_links channel.kind e }) named))
      (subst (λ x. IsTemplate c x (record { names = end_a c number ∷ end_b c number ∷ []; links = channel_links channel.kind (end_a c number) })) (sym (ap (λ b. cond b (OfChannel number) (OfNode (number - length c.channels))) (lt-ltb number (length c.channels) (subst (λ chs. number < length chs) same below)))) at)

  pub of_node : (channels : List Channel) → channels ≡ c.channels → length channels ≤ number
      → t ≡ record { names = node_names c (number - length channels); links = node_links c (node_names c (number - length channels)) } → IsTemplate c (automaton_of c number) t
  of_node channels same past is =
      subst (IsTemplate c (automaton_of c number)) (sym (is ∙ ap (λ (chs : List Channel). record { names = node_names c (number - length chs); links = node_links c (node_names c (number - length chs)) }) same))
      (subst (λ x. IsTemplate c x (record { names = node_names c (number - length c.channels); links = node_links c (node_names c (number - length c.channels)) })) (sym (ap (λ b. cond b (OfChannel number) (OfNode (number - length c.channels))) (le-ltb number (length c.channels) (subst (λ chs. length chs ≤ number) same past)))) (node_is_template c (number - length c.channels)))

  -- the same, where the names are listed already
  pub of_names : (channels : List Channel) (names : List ℕ) → channels ≡ c.channels → length channels ≤ number → names ≡ node_names c (number - length channels)
      → t ≡ record { names = names; links = node_links c names } → IsTemplate c (automaton_of c number) t
  of_names channels names same past listed is = of_node channels same past (is ∙ ap (λ (ns : List ℕ). record { names = ns; links = node_links c ns }) listed)
