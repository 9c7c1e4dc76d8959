use Rattle.std.proofs.Common.{◌≡◌, ◌<◌, [], length, subst, arith}
use Rattle.std.specs.Prelude.{flat_map}
use Rattle.reo_growth.specs.Growth.{extended, grown}
use Rattle.reo_growth.specs.Found.{Went, WentOver}
use Rattle.reo_growth.proofs.EngineLemmas.{ready_none, long_of, marks_still, still, unchanged}
use Rattle.reo_growth.proofs.OpenLemmas.{none_open}
use Rattle.reo_growth.proofs.SearchLemmas.{vertices_before, search_none, search_more, search_over, search_all}
use Rattle.reo_growth.proofs.table.grow_all.Goals as goal

pub widen-requires-clause-long : goal.widen-requires-clause-long
widen-requires-clause-long c =
    let w = c.args.ground.now.web in
    long_of w [] c.loop-root.marking (marks_still w [] c.args.marking.now c.loop-root.marking c.requires.marks c.loop-root.invariant.same)

pub loop-root-init : goal.loop-root-init
loop-root-init c = record { bound = omega (arith, c.requires.fresh.room, c.requires.fresh.count); went = search_none c.args.ground.now.web _; same = unchanged c.args.marking.now }

pub loop-root-preserved : goal.loop-root-preserved
loop-root-preserved c =
    let w = c.args.ground.now.web in
    let all : c.len-count.result ≡ length w.automata = c.len-count.ensures in
    let root = c.loop-root.root in
    let went = subst (Went w (flat_map (grown w root c.len-count.result) (extended w [] root)) c.loop-root.found c.widen.new.found) c.if-not-branch.false
    (c.in_ok-widen.ensures.went [] (ready_none w c.requires.ground.is_web root) (marks_still w [] c.args.marking.now c.loop-root.marking c.requires.marks c.loop-root.invariant.same)) in
    record {
      same = still c.args.marking.now c.loop-root.marking c.widen.new.marking c.loop-root.invariant.same c.in_ok-widen.ensures.marking;
      bound = omega (arith, c.in_ok-widen.ensures.room, c.loop-root.invariant.bound);
      went = search_more w root _ c.loop-root.found c.widen.new.found c.loop-root.invariant.went
          (subst (λ n. WentOver w (flat_map (grown w root n) (extended w [] root)) c.loop-root.found c.widen.new.found) all went);
    }

pub returns-then-not-branch : goal.returns-then-not-branch
returns-then-not-branch c =
    let w = c.args.ground.now.web in
    let all : c.len-count.result ≡ length w.automata = c.len-count.ensures in
    let root = c.loop-root.root in
    let went = subst (Went w (flat_map (grown w root c.len-count.result) (extended w [] root)) c.loop-root.found c.widen.new.found) c.if-not-branch.true
    (c.in_ok-widen.ensures.went [] (ready_none w c.requires.ground.is_web root) (marks_still w [] c.args.marking.now c.loop-root.marking c.requires.marks c.loop-root.invariant.same)) in
    search_over w root _ c.loop-root.found (omega (arith, all, c.loop-root-test.true)) c.requires.fresh.room c.loop-root.invariant.went
    (subst (λ n. c.loop-root.found.room < length (flat_map (grown w root n) (extended w [] root))) all went)

pub returns : goal.returns
returns c =
    let w = c.args.ground.now.web in
    let all : c.loop-root.root ≡ length w.automata = omega (arith, c.len-count.ensures, c.loop-root-test.false, c.loop-root.auto.root-end) in
    search_all w _ c.loop-root.found c.requires.fresh.room c.requires.fresh.count c.requires.fresh.rows
    (subst (λ n. WentOver w (vertices_before w n) c.args.found c.loop-root.found) all c.loop-root.invariant.went)

pub widen-requires-clause-before : goal.widen-requires-clause-before
widen-requires-clause-before c =
    let w = c.args.ground.now.web in
    let are = marks_still w [] c.args.marking.now c.loop-root.marking c.requires.marks c.loop-root.invariant.same in
    none_open w c.loop-root.marking.automata.marks.items c.loop-root.root are.automata
