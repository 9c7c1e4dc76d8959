-- What is left behind the first line.
use Rattle.std.proofs.Common.{◌≡◌, ℕ, ◌+◌, ◌-◌, ◌<◌, List, ◌∷◌, length, take, drop, Option, Some, None, Bor, IsUtf8, IfSome, sym, subst, arith, length-drop}
use Rattle.std.specs.Option.{option_copied}
use Rattle.std.proofs.lemmas.List.{take_rest}
use Rattle.reo_sentence.specs.Said.{Said}
use Rattle.reo_document.specs.Document.{DocumentData}
use Rattle.reo_document.specs.Placed.{with_said}
use Rattle.reo_document.specs.Spells.{Leads, Goes}
use Rattle.reo_document.specs.Builder.{HasRoom}
use Rattle.reo_document.specs.Lines.{lines_of, lines_behind}
use Rattle.reo_document.specs.Plain.{EndsLine}
use Rattle.reo_document.specs.Reading.{GoesPast}
use Rattle.reo_document.proofs.RoomLemmas.{room_less, room_said}
use Rattle.reo_document.proofs.PlainLineLemmas.{lines_at, utf8_at}

pub past_line : (d next : DocumentData) (number : ℕ) (bytes line : List ℕ) (more : Option (Bor (List ℕ))) → lines_of bytes ≡ line ∷ lines_behind (option_copied more)
    → IfSome more (λ rest. length line + length rest.now < length bytes) → IfSome more (λ rest. IsUtf8 rest.now) → HasRoom d (length bytes)
    → ((left : ℕ) → HasRoom d (length line + 1 + left) → HasRoom next left) → Leads d number line (Goes next) → GoesPast d number bytes next (option_copied more)
past_line d next number bytes line None exact fewer utf8 room kept goes = record { line = line; exact = exact; goes = goes; fewer = tt; room = tt; utf8 = tt }
past_line d next number bytes line (Some rest) exact fewer utf8 room kept goes = record {
  line = line;
  exact = exact;
  goes = goes;
  fewer = omega (arith, fewer);
  room = kept (length rest.now) (room_less d (length bytes) (length line + 1 + length rest.now) (omega (arith, fewer)) room);
  utf8 = utf8;
}

past_here : (d next : DocumentData) (number : ℕ) (bytes : List ℕ) (len : ℕ) (it : Said) → EndsLine bytes len → IsUtf8 bytes → HasRoom d (length bytes) → next ≡ with_said d it
    → Leads d number (take len bytes) (Goes next) → GoesPast d number bytes next (Some (drop (len + 1) bytes))
past_here d next number bytes len it ends utf8 room is goes =
    let left : length (drop (len + 1) bytes) ≡ length bytes - (len + 1) = length-drop (len + 1) bytes in
    record {
      line = take len bytes;
      exact = lines_at bytes len ends;
      goes = goes;
      fewer = omega (arith, left, ends.within);
      room =
          room_said d next d.texts it 0 len is (omega arith) (omega arith) (length (drop (len + 1) bytes))
          (room_less d (length bytes) (len + 1 + length (drop (len + 1) bytes)) (omega (arith, left, ends.within)) room);
      utf8 = utf8_at bytes len ends utf8;
    }

pub past_plain : (d next : DocumentData) (number : ℕ) (bytes : List ℕ) (len : ℕ) (it : Said) → EndsLine bytes len → IsUtf8 bytes → HasRoom d (length bytes) → next ≡ with_said d it
    → Leads d number (take len bytes) (Goes next) → GoesPast d number bytes next (Some (take (length bytes - (len + 1)) (drop (len + 1) bytes)))
past_plain d next number bytes len it ends utf8 room is goes =
    subst (λ rest. GoesPast d number bytes next (Some rest)) (sym (take_rest bytes (len + 1))) (past_here d next number bytes len it ends utf8 room is goes)
