-- A reader behind a line, and what is left of the file there.
use Rattle.std.proofs.Common.{◌≡◌, ◌≤◌, ◌+◌, ◌-◌, ℕ, suc, Bool, true, ◌==◌, List, [], ◌∷◌, ◌++◌, length, take, drop, position, Some, ap, sym, ◌∙◌, arith, append_assoc, append-nil, length-append, length-drop}
use Rattle.std.proofs.lemmas.List.{drop-drop, drop-append-le, length-take-le, drop_all}
use Rattle.std.proofs.lemmas.List.Quantifiers.{position-Some}
use Rattle.wf_io.specs.Told.{File}
use Rattle.wf_io.specs.Lines.{AtEnd, is_given, lines_within, with_line}
use Rattle.wf_io.specs.Readers.{Reader, Stands, left_in, file_most}
use Rattle.wf_io.specs.Steps.{behind, HasNoNewline, Sound}
use Rattle.wf_io.proofs.Cutting.{lacks, lacks_before, found_newline}
use Rattle.wf_io.proofs.Leaving.{line_left, last_left, put_line}

-- the file behind bytes that are held
pub drop_behind : (file : File) (r : Reader) (s : Stands file r) (whole : ℕ) → whole ≤ length r.kept → drop (r.place + whole) file.bytes ≡ drop whole r.kept ++ s.rest
drop_behind file r s whole held = sym (drop-drop whole r.place file.bytes) ∙ ap (drop whole) s.bytes ∙ drop-append-le whole r.kept s.rest held

-- how long the file is, from where the reader stands
pub size_left : (file : File) (r : Reader) (s : Stands file r) → length file.bytes ≡ r.place + (length r.kept + length s.rest)
size_left file r s =
    let all = ap (length {A = ℕ}) s.bytes in
    omega (arith, all, length-append r.kept s.rest, length-drop r.place file.bytes, s.within)

-- it stands in the file behind a line that it held
pub stands_behind : (file : File) (r : Reader) (given : Bool) (size whole : ℕ) → whole ≤ length r.kept → Stands file r → Stands file (behind given size whole r)
stands_behind file r given size whole held s = record {
  rest = s.rest;
  bytes = drop_behind file r s whole held;
  within = omega (arith, size_left file r s, held);
  whole = s.whole;
}

-- a file from its bytes
left_of : (file : File) (r : Reader) (bytes : List ℕ) → drop r.place file.bytes ≡ bytes → left_in file r ≡ lines_within (file_most - r.place) r.number (record { bytes = bytes; broken = file.broken })
left_of file r bytes e = ap (λ b. lines_within (file_most - r.place) r.number (record { bytes = b; broken = file.broken })) e

-- the lines that are left where a reader stands, by what it holds
pub left_held : (file : File) (r : Reader) (s : Stands file r) → left_in file r ≡ lines_within (file_most - r.place) r.number (record { bytes = r.kept ++ s.rest; broken = file.broken })
left_held file r s = left_of file r (r.kept ++ s.rest) s.bytes

-- the same where a reader holds the last bytes of a file
pub left_at_end : (file : File) (r : Reader) (s : Stands file r) → s.rest ≡ [] → left_in file r ≡ lines_within (file_most - r.place) r.number (record { bytes = r.kept; broken = file.broken })
left_at_end file r s none = left_of file r r.kept (s.bytes ∙ ap (λ l. r.kept ++ l) none ∙ append-nil r.kept)

-- a line that is held with its newline is the first of those that are left
pub left_behind : (file : File) (r : Reader) (given : Bool) (n : ℕ) → position (λ b. b == 10) r.kept ≡ Some n → Sound r → Stands file r
    → left_in file r ≡ put_line (is_given (take n r.kept)) r.number (take n r.kept) (left_in file (behind given n (n + 1) r))
left_behind file r given n e sound s =
    let raw = take n r.kept in
    let more = drop (n + 1) r.kept ++ s.rest in
    let found = position-Some (λ b. b == 10) r.kept n 0 e in
    let size : length raw ≡ n = length-take-le n r.kept (omega (arith, found.0)) in
    let bytes : drop r.place file.bytes ≡ raw ++ 10 ∷ more = s.bytes ∙ ap (λ l. l ++ s.rest) (found_newline r.kept n e) ∙ append_assoc raw (10 ∷ drop (n + 1) r.kept) s.rest in
    let most : file_most - r.place - suc (length raw) ≡ file_most - (r.place + (n + 1)) = omega (arith, size) in
    let next : suc r.number ≡ r.number + 1 = omega arith in
    left_of file r (raw ++ 10 ∷ more) bytes
    ∙ line_left (file_most - r.place) r.number file.broken raw more (lacks_before r.kept n e) (omega (arith, size, found.0, sound.within))
    ∙ ap (λ m. put_line (is_given raw) r.number raw (lines_within m (suc r.number) (record { bytes = more; broken = file.broken }))) most
    ∙ ap (λ k. put_line (is_given raw) r.number raw (lines_within (file_most - (r.place + (n + 1))) k (record { bytes = more; broken = file.broken }))) next
    ∙ ap (λ b. put_line (is_given raw) r.number raw (lines_within (file_most - (r.place + (n + 1))) (r.number + 1) (record { bytes = b; broken = file.broken }))) (sym (drop_behind file r s (n + 1) (omega (arith, found.0))))

-- what is left where a reader holds the last line of a whole file
pub left_last : (file : File) (r : Reader) → HasNoNewline r.kept → r.ended ≡ true → Sound r → Stands file r
    → left_in file r ≡ record { lines = with_line (is_given r.kept) r.number r.kept []; tail = AtEnd }
left_last file r none ended sound s =
    let whole = s.whole ended in
    left_at_end file r s whole.0
    ∙ ap (λ b. lines_within (file_most - r.place) r.number (record { bytes = r.kept; broken = b })) whole.1
    ∙ last_left (file_most - r.place) r.number r.kept (lacks r.kept none) (omega (arith, sound.within))

-- nothing is left behind that line
pub left_none : (file : File) (r : Reader) (given : Bool) (size : ℕ) → size ≡ length r.kept → r.ended ≡ true → Sound r → Stands file r
    → left_in file (behind given size size r) ≡ record { lines = []; tail = AtEnd }
left_none file r given size all ended sound s =
    let whole = s.whole ended in
    let bytes : drop (r.place + size) file.bytes ≡ [] = drop_all (r.place + size) file.bytes (omega (arith, size_left file r s, ap (length {A = ℕ}) whole.0, all)) in
    left_of file (behind given size size r) [] bytes
    ∙ ap (λ b. lines_within (file_most - (r.place + size)) (r.number + 1) (record { bytes = []; broken = b })) whole.1
    ∙ last_left (file_most - (r.place + size)) (r.number + 1) [] (λ k below. absurd (omega (arith, below))) (omega arith)
