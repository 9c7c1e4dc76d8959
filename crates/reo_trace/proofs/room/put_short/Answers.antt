use Rattle.std.proofs.Common.{◌≡◌, ◌+◌, ◌-◌, ◌++◌, length, take, drop, ap, ◌∙◌, arith, length-drop}
use Rattle.std.proofs.lemmas.List.{length-take-le}
use Rattle.std.proofs.lemmas.Slice.{take-put_mid}
use Rattle.reo_trace.proofs.RoomLemmas.{part_written}
use Rattle.reo_trace.proofs.room.put_short.Goals as goal

pub returns-clause-written : goal.returns-clause-written
returns-clause-written c =
    let used = c.args.used in
    let from = c.args.part.from in
    let bytes = c.args.part.bytes.now in
    let width : from + 32 - from ≡ 32 = omega arith in
    let part : c.copy_from_slice-2.new.self ≡ take 32 (drop from bytes) = c.copy_from_slice-2.ensures.after ∙ c.copy_from_slice.ensures.after ∙ ap (λ n. take n (drop from bytes)) width in
    let long = ap length part ∙ length-take-le 32 (drop from bytes) (omega (arith, length-drop from bytes, c.requires.part)) in
    part_written c.args.room.now _ bytes used from c.args.part.count (omega (arith, c.requires.room)) c.requires.part c.requires.count
    (take-put_mid used (used + 32 - used) c.args.room.now c.copy_from_slice-2.new.self (used + 32) (omega (arith, long)) (omega (arith, c.requires.room)) ∙ ap (λ l. take used c.args.room.now ++ l) part)
