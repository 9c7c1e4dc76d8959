use Rattle.std.proofs.Common.{refl, subst}
use Rattle.reo_session.specs.Watch.{WakesAt}
use Rattle.reo_session.proofs.WakeLemmas.{long_then, asleep_before, untouched}
use Rattle.reo_session.proofs.watch.Watch.wake_for.Goals as goal

pub returns : goal.returns
returns c =
    let w = c.args.self.now in
    let e = c.args.entry.now in
    let s1 = subst (λ places. WakesAt w.fillers.items places w.awake.items c.wake_at.new.awake.items) c.takes.ensures (subst (λ table. WakesAt table c.takes.result.now w.awake.items c.wake_at.new.awake.items) c.deref.ensures.value c.wake_at.ensures) in
    let s2 = subst (λ places. WakesAt w.takers.items places c.wake_at.new.awake.items c.wake_at-2.new.awake.items) c.takes-2.ensures (subst (λ table. WakesAt table c.takes-2.result.now c.wake_at.new.awake.items c.wake_at-2.new.awake.items) c.deref-2.ensures.value c.wake_at-2.ensures) in
    let s3 = subst (λ places. WakesAt w.fillers.items places c.wake_at-2.new.awake.items c.wake_at-3.new.awake.items) c.fills.ensures (subst (λ table. WakesAt table c.fills.result.now c.wake_at-2.new.awake.items c.wake_at-3.new.awake.items) c.deref-3.ensures.value c.wake_at-3.ensures) in
    let s4 = subst (λ places. WakesAt w.takers.items places c.wake_at-3.new.awake.items c.wake_at-4.new.awake.items) c.fills-2.ensures (subst (λ table. WakesAt table c.fills-2.result.now c.wake_at-3.new.awake.items c.wake_at-4.new.awake.items) c.deref-4.ensures.value c.wake_at-4.ensures) in
    let s5 = subst (λ places. WakesAt w.regions.items places c.wake_at-4.new.awake.items c.wake_at-5.new.awake.items) c.puts.ensures (subst (λ table. WakesAt table c.puts.result.now c.wake_at-4.new.awake.items c.wake_at-5.new.awake.items) c.deref-5.ensures.value c.wake_at-5.ensures) in
    let s6 = subst (λ places. WakesAt w.regions.items places c.wake_at-5.new.awake.items c.wake_at-6.new.awake.items) c.gets.ensures (subst (λ table. WakesAt table c.gets.result.now c.wake_at-5.new.awake.items c.wake_at-6.new.awake.items) c.deref-6.ensures.value c.wake_at-6.ensures) in
    record {
      places = record { awake = long_then w e w.awake.items c.wake_at.new.awake.items c.wake_at-2.new.awake.items c.wake_at-3.new.awake.items c.wake_at-4.new.awake.items c.wake_at-5.new.awake.items c.wake_at-6.new.awake.items s1 s2 s3 s4 s5 s6; regions = refl; fillers = refl; takers = refl };
      waiting = refl;
      were = asleep_before w e w.awake.items c.wake_at.new.awake.items c.wake_at-2.new.awake.items c.wake_at-3.new.awake.items c.wake_at-4.new.awake.items c.wake_at-5.new.awake.items c.wake_at-6.new.awake.items s1 s2 s3 s4 s5 s6;
      apart = untouched w e w.awake.items c.wake_at.new.awake.items c.wake_at-2.new.awake.items c.wake_at-3.new.awake.items c.wake_at-4.new.awake.items c.wake_at-5.new.awake.items c.wake_at-6.new.awake.items s1 s2 s3 s4 s5 s6;
    }
