use Rattle.std.proofs.Common.{◌≡◌, ℕ, ◌++◌, ◌∷◌, [], ap, ◌∙◌}
use Rattle.reo_table.specs.Shared.{SeatState}
use Rattle.reo_test_ports.proofs.PipeLemmas.{enter_there, enter_of, leave_of, may_commit}
use Rattle.reo_test_ports.proofs.pipe.commit_one.Goals as goal

pub see_port-enter-requires-clause-port : goal.see_port-enter-requires-clause-port
see_port-enter-requires-clause-port c =
    enter_of c.args.words.now.setting.fabric _ c.requires.pipe_is.fabric
    (ap (λ (s : SeatState). s.view.cells.region) c.clock-clock.ensures.view ∙ (ap (λ (s : SeatState). s.view.cells.region) c.begin-round.ensures.view ∙ c.requires.pipe_is.region_is))

pub see_offer-offer-requires-clause-port : goal.see_offer-offer-requires-clause-port
see_offer-offer-requires-clause-port c =
    enter_there c.args.words.now.setting.fabric _ c.requires.pipe_is.fabric
    (ap (λ (s : SeatState). s.view.cells.region) c.see_port-enter.ensures
    ∙ (ap (λ (s : SeatState). s.view.cells.region) c.clock-clock.ensures.view ∙ (ap (λ (s : SeatState). s.view.cells.region) c.begin-round.ensures.view ∙ c.requires.pipe_is.region_is)))

pub see_port-leave-requires-clause-port : goal.see_port-leave-requires-clause-port
see_port-leave-requires-clause-port c =
    leave_of c.args.words.now.setting.fabric _ c.requires.pipe_is.fabric
    (ap (λ (s : SeatState). s.view.cells.region) c.see_offer-offer.ensures
    ∙ (ap (λ (s : SeatState). s.view.cells.region) c.see_port-enter.ensures
    ∙ (ap (λ (s : SeatState). s.view.cells.region) c.clock-clock.ensures.view ∙ (ap (λ (s : SeatState). s.view.cells.region) c.begin-round.ensures.view ∙ c.requires.pipe_is.region_is))))

pub commit-number-requires-clause-may : goal.commit-number-requires-clause-may
commit-number-requires-clause-may c =
    may_commit c.args.words.now.setting.fabric c.see_port-leave.new.self.view c.lent.result c.see_port-enter.result c.see_offer-offer.result c.see_port-leave.result c.in-Some.value c.requires.pipe_is.fabric
    (ap (λ (s : SeatState). s.view.cells.region) c.see_port-leave.ensures
    ∙ (ap (λ (s : SeatState). s.view.cells.region) c.see_offer-offer.ensures
    ∙ (ap (λ (s : SeatState). s.view.cells.region) c.see_port-enter.ensures
    ∙ (ap (λ (s : SeatState). s.view.cells.region) c.clock-clock.ensures.view ∙ (ap (λ (s : SeatState). s.view.cells.region) c.begin-round.ensures.view ∙ c.requires.pipe_is.region_is)))))
    (ap (λ (s : SeatState). s.view.cells.stage) c.see_port-leave.ensures
    ∙ (ap (λ (s : SeatState). s.view.cells.stage) c.see_offer-offer.ensures ∙ (ap (λ (s : SeatState). s.view.cells.stage) c.see_port-enter.ensures ∙ c.in-Clear.ensures.stage)))
    (ap (λ (s : SeatState). s.view.ports.states) c.see_port-leave.ensures
    ∙ ap (λ l. l ++ (1, c.see_port-leave.result) ∷ [])
    (ap (λ (s : SeatState). s.view.ports.states) c.see_offer-offer.ensures
    ∙ (ap (λ (s : SeatState). s.view.ports.states) c.see_port-enter.ensures
    ∙ ap (λ l. l ++ (0, c.see_port-enter.result) ∷ []) (ap (λ (s : SeatState). s.view.ports.states) c.clock-clock.ensures.view ∙ ap (λ (s : SeatState). s.view.ports.states) c.begin-round.ensures.view))))
    (ap (λ (s : SeatState). s.view.ports.laid) c.see_port-leave.ensures
    ∙ (ap (λ (s : SeatState). s.view.ports.laid) c.see_offer-offer.ensures
    ∙ ap (λ l. l ++ (0, c.see_offer-offer.result) ∷ [])
    (ap (λ (s : SeatState). s.view.ports.laid) c.see_port-enter.ensures
    ∙ (ap (λ (s : SeatState). s.view.ports.laid) c.clock-clock.ensures.view ∙ ap (λ (s : SeatState). s.view.ports.laid) c.begin-round.ensures.view))))
    c.if-enter-ne1.false c.if-leave-ne1.false (c.lent.ensures ∙ c.in_ok-entry.ensures) c.in-Some.ensures.in_range c.in-Some.ensures.code
