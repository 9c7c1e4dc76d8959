use Rattle.std.proofs.Common.{◌≡◌, ◌+◌, ◌-◌, ◌++◌, length, take, drop, sym, ap, ◌∙◌, arith, length-drop, take-append-drop}
use Rattle.std.proofs.lemmas.List.{take-append-le, length-take-le}
use Rattle.std.proofs.Math.Seq.{take-append-add}
use Rattle.reo_trace.proofs.lines.append_short.Goals as goal

pub returns-clause-taken : goal.returns-clause-taken
returns-clause-taken c =
    let old = c.args.buffer.now.items in
    let rest = drop c.args.from c.args.bytes.now in
    let long : length (take 32 rest) ≡ 32 = length-take-le 32 rest (omega (arith, length-drop c.args.from c.args.bytes.now, c.requires.0)) in
    let front : take c.args.count (take 32 rest) ≡ take c.args.count rest =
    sym (take-append-le c.args.count (take 32 rest) (drop 32 rest) (omega (arith, long, c.requires.1))) ∙ ap (take c.args.count) (take-append-drop 32 rest) in
    let at : c.len-len.result ≡ length old = omega (arith, c.len-len.ensures, c.args.buffer.now.ok.0) in
    let width : c.args.from + 32 - c.args.from ≡ 32 = omega arith in
    let shown : length (take c.args.count rest) ≡ c.args.count = length-take-le c.args.count rest (omega (arith, length-drop c.args.from c.args.bytes.now, c.requires.0, c.requires.1)) in
    record {
      items = c.truncate.ensures.items ∙ ap (take (c.len-len.result + c.args.count)) c.in_ok-extend_from_slice.ensures.items ∙ ap (λ k. take (c.len-len.result + c.args.count) (old ++ take k rest)) width
          ∙ ap (λ k. take (k + c.args.count) (old ++ take 32 rest)) at
          ∙ take-append-add old (take 32 rest) c.args.count ∙ ap (λ l. old ++ l) front;
      len = omega (arith, c.truncate.ensures.len, c.in_ok-extend_from_slice.ensures.len, ap (λ k. length (take k rest)) width, c.len-len.ensures, long, shown, c.requires.1);
      capacity = omega (arith, c.truncate.ensures.capacity, c.extend_from_slice.ensures.capacity);
    }
