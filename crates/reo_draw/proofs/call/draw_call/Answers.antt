use Rattle.reo_draw.proofs.DrawLaw.{promise_kept}
use Rattle.reo_draw.proofs.call.draw_call.Goals as goal

pub returns-clause-drawn : goal.returns-clause-drawn
returns-clause-drawn g c document p = promise_kept _ _ _ _ document c.draw.result p c.draw.ensures
