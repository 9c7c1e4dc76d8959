-- What a reader that began at the front of a line has found.
use Rattle.std.proofs.Common.{◌≡◌, ℕ, true, false, ◌||◌, List, ◌++◌, map, sym, ap, subst, ◌∙◌, append-nil}
use Rattle.reo_grammar.specs.Lines.{Place, sentence_of, IsLine}
use Rattle.reo_grammar.specs.Wrong.{IsFirstWrong}
use Rattle.reo_grammar.specs.Machine.Lines.{LineStart, step, whole}
use Rattle.reo_grammar.proofs.LineLaws.{says_whole, gets_stuck_goes_wrong}
use Rattle.reo_sentence.specs.declared.cursor.Cursor.{Cursor}
use Rattle.reo_sentence.specs.declared.stop.Stop.{Stop}
use Rattle.reo_sentence.specs.declared.stop.Stop.TheVariants as stop
use Rattle.reo_sentence.specs.declared.said.Sentence as rust
use Rattle.reo_sentence.specs.Seen.{seen}
use Rattle.reo_sentence.specs.Limits.{is_wide, is_long}
use Rattle.reo_sentence.specs.Reading.{left, Halts}
use Rattle.reo_sentence.specs.LineReading.{ReadsLine, StopsStart}
use Rattle.reo_sentence.specs.ReadLine.{Says, IsWrongAt, IsWide, IsLong, column_at}
use Rattle.reo_sentence.proofs.ReadingLemmas.{Goes-left}

-- what was read whole is a line
pub is_line : (place : Place) (old new : Cursor) (known texts : List (List ℕ)) (sentence : rust.Sentence) (reads : ReadsLine place old new known texts sentence)
    → IsLine place (left old) (sentence_of reads.tree)
is_line place old new known texts sentence reads =
    subst (λ ts. IsLine place ts (sentence_of reads.tree)) (sym (Goes-left old new reads.front reads.reads.goes ∙ ap (λ ts. reads.front ++ ts) reads.over ∙ append-nil reads.front))
    (says_whole place reads.front reads.state reads.tree reads.led reads.is_whole)

pub wide_line : (place : Place) (old new : Cursor) (known texts : List (List ℕ)) (sentence : rust.Sentence) → ReadsLine place old new known texts sentence → old.is_wide ≡ false → new.is_wide ≡ true
    → IsWide place old.line.now old.rest.now
wide_line place old new known texts sentence reads plain wide = record {
  sentence = sentence_of reads.tree;
  is_line = is_line place old new known texts sentence reads;
  out_of_range = sym (ap (λ w. w || is_wide (sentence_of reads.tree)) plain) ∙ sym reads.reads.wide_noted ∙ wide;
}

in_range : (place : Place) (old new : Cursor) (known texts : List (List ℕ)) (sentence : rust.Sentence) (reads : ReadsLine place old new known texts sentence) → old.is_wide ≡ false → new.is_wide ≡ false
    → is_wide (sentence_of reads.tree) ≡ false
in_range place old new known texts sentence reads plain none = sym (ap (λ w. w || is_wide (sentence_of reads.tree)) plain) ∙ sym reads.reads.wide_noted ∙ none

pub long_line : (place : Place) (old new : Cursor) (known texts : List (List ℕ)) (sentence : rust.Sentence) → ReadsLine place old new known texts sentence → old.is_wide ≡ false → new.is_wide ≡ false
    → old.is_long ≡ false → new.is_long ≡ true → IsLong place old.line.now old.rest.now
long_line place old new known texts sentence reads plain none short long = record {
  sentence = sentence_of reads.tree;
  is_line = is_line place old new known texts sentence reads;
  in_range = in_range place old new known texts sentence reads plain none;
  too_long = sym (ap (λ w. w || is_long (sentence_of reads.tree)) short) ∙ sym reads.reads.long_noted ∙ long;
}

pub says_line : (place : Place) (old new : Cursor) (known texts : List (List ℕ)) (sentence : rust.Sentence) → ReadsLine place old new known texts sentence → old.is_wide ≡ false → new.is_wide ≡ false
    → old.is_long ≡ false → new.is_long ≡ false → Says place old.line.now old.rest.now known texts sentence
says_line place old new known texts sentence reads plain none short not_long = record {
  sentence = sentence_of reads.tree;
  is_line = is_line place old new known texts sentence reads;
  in_range = in_range place old new known texts sentence reads plain none;
  short = sym (ap (λ w. w || is_long (sentence_of reads.tree)) short) ∙ sym reads.reads.long_noted ∙ not_long;
  numbered = reads.reads.numbered none not_long;
}

wrong_line : (place : Place) (old new : Cursor) (column : ℕ) → Halts (step place) whole LineStart old new → column ≡ column_at old.rest.now new.rest.now → IsWrongAt place old.line.now old.rest.now column
wrong_line place old new column halts is = record {
  front = halts.goes.passed;
  rest = new.rest.now;
  split = halts.goes.rest;
  wrong =
      subst (λ l. IsFirstWrong place (left old) (map (seen l) new.rest.now)) halts.goes.line
      (gets_stuck_goes_wrong place (left old) (left new) (record {
        front = halts.front;
        split = Goes-left old new halts.front halts.goes;
        state = halts.state;
        led = halts.led;
        stuck = halts.stuck;
      }));
  at = is;
}

pub stopped_line : (place : Place) (old new : Cursor) (column : ℕ) (e : Stop) → StopsStart place old new e → e ≡ stop.Syntax → column ≡ column_at old.rest.now new.rest.now
    → IsWrongAt place old.line.now old.rest.now column
stopped_line place old new column e stops is at = wrong_line place old new column (subst (StopsStart place old new) is stops) at
