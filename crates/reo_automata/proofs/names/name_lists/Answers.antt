use Rattle.std.proofs.Common.{◌≡◌, ℕ, ◌+◌, ◌*◌, ◌++◌, ◌∷◌, [], List, cond, filter, length, slice_get, nat_eq, Some, refl, sym, subst, ap, ◌∙◌, arith}
use Rattle.std.specs.List.{range_with_len}
use Rattle.std.proofs.lemmas.Option.{slice_get_read}
use Rattle.reo_net.specs.declared.circuit.Channel.{Channel}
use Rattle.reo_net.specs.declared.circuit.Port.{Port}
use Rattle.reo_net.specs.Names.{end_a}
use Rattle.reo_automata.specs.Links.{is_at}
use Rattle.reo_automata.proofs.EndLemmas.{ends_more}
use Rattle.reo_automata.proofs.names.name_lists.Goals as goal

pub loop-number-preserved : goal.loop-number-preserved
loop-number-preserved c =
    let net = c.args.net.now in
    let i = c.loop-number.number in
    let channel = c.channel-item.result in
    let channels = c.channels-channel-items.result.now in
    let found = subst (λ (all : List Channel). slice_get all i ≡ Some channel) c.channels-channel-items.ensures.channels
    (slice_get_read channels (length channels) i channel refl c.loop-number-test.true c.channel-item.is) in
    let a = length c.ports-ports.result.now + 2 * i in
    let is : a ≡ end_a net i = ap (λ (ports : List Port). length ports + 2 * i) c.ports-ports.ensures.ports in
    record {
      long = c.in_ok-add_name-2.ensures.long ∙ (c.in_ok-add_name.ensures.long ∙ c.loop-number.invariant.long);
      each = λ node below.
          let at_a = nat_eq channel.a node in
          let at_b = nat_eq channel.b node in
          let before = filter (is_at net node) (range_with_len 0 (end_a net i)) in
          c.in_ok-add_name-2.ensures.each node (omega (arith, c.in_ok-add_name.ensures.long, c.loop-number.invariant.long))
          ∙ (ap (λ (list : List ℕ). list ++ cond at_b ((a + 1) ∷ []) [])
          (c.in_ok-add_name.ensures.each node (omega (arith, c.loop-number.invariant.long)) ∙ ap (λ (list : List ℕ). list ++ cond at_a (a ∷ []) []) (c.loop-number.invariant.each node below))
          ∙ (ap (λ (end : ℕ). (before ++ cond at_a (end ∷ []) []) ++ cond at_b ((end + 1) ∷ []) []) is ∙ sym (ends_more net node i channel found)));
    }
