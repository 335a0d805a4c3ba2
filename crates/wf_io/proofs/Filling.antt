-- What a piece that was read makes of a reader.
use Rattle.std.proofs.Common.{◌≡◌, ◌<◌, ◌≤◌, ◌+◌, ◌-◌, ℕ, false, true, List, [], ◌++◌, length, take, drop, nat_eq, Result, Ok, Err, MatchResult, OnOk, ap, sym, subst, ◌∙◌, arith, append_assoc}
use Rattle.std.proofs.lemmas.Bool.{le-ltb}
use Rattle.std.proofs.lemmas.Bool.Decides.{nat_tests}
use Rattle.std.proofs.lemmas.List.{nil_from_length, drop_all, take-append-drop}
use Rattle.wf_io.specs.declared.limits.TheConstants.{LINE_MOST}
use Rattle.wf_io.specs.Told.{File}
use Rattle.wf_io.specs.Windows.{Grows}
use Rattle.wf_io.specs.Lines.{is_too_long, Broken, LongFile, lines_within}
use Rattle.wf_io.specs.Readers.{Reader, Stands, left_in, file_most, Ends, Stops}
use Rattle.wf_io.specs.Steps.{Dry, Sound, holding, SeesEnd, EndsAt, Grew, GrewIn}
use Rattle.wf_io.specs.declared.lines.LineFault.{LineFault}
use Rattle.wf_io.specs.declared.lines.LineFault.TheVariants.{LineTooLong, FileTooLong, Fault}
use Rattle.wf_io.proofs.Cutting.{lacks}
use Rattle.wf_io.proofs.Leaving.{broken_left, long_left}
use Rattle.wf_io.proofs.Standing.{drop_behind, size_left, left_held, left_at_end}

-- a file that ends behind what is held has no more bytes
none_left : (file : File) (r : Reader) (s : Stands file r) → length file.bytes ≤ r.place + length r.kept → s.rest ≡ []
none_left file r s end = nil_from_length s.rest (omega (arith, size_left file r s, end))

-- a reader that sees the end of a whole file stands there
pub stands_at_end : (file : File) (r : Reader) (held : List ℕ) → length file.bytes ≤ r.place + length r.kept → file.broken ≡ false → Stands file r → Stands file (holding held r.kept true r)
stands_at_end file r held end whole s = record { rest = s.rest; bytes = s.bytes; within = s.within; whole = λ _. (none_left file r s end, whole) }

-- what is behind the bytes that are held
behind_held : (file : File) (r : Reader) (s : Stands file r) → drop (r.place + length r.kept) file.bytes ≡ s.rest
behind_held file r s = drop_behind file r s (length r.kept) (omega arith) ∙ ap (λ l. l ++ s.rest) (drop_all (length r.kept) r.kept (omega arith))

-- a reader that holds more bytes stands in the file
pub stands_longer : (file : File) (r : Reader) (held kept : List ℕ) (n : ℕ) → Grows file (r.place + length r.kept) r.kept kept n → Stands file r → Stands file (holding held kept (nat_eq n 0) r)
stands_longer file r held kept n grows s =
    let rest = behind_held file r s in
    let more : kept ≡ r.kept ++ take n s.rest = grows.bytes ∙ ap (λ l. r.kept ++ take n l) rest in
    record {
      rest = drop n s.rest;
      bytes = s.bytes ∙ ap (λ l. r.kept ++ l) (sym (take-append-drop n s.rest)) ∙ sym (append_assoc r.kept (take n s.rest) (drop n s.rest)) ∙ ap (λ l. l ++ drop n s.rest) (sym more);
      within = s.within;
      whole = λ ended.
          let zero : n ≡ 0 = grind (arith, nat_tests, ended) in
          let end = grows.none zero in
          (drop_all n s.rest (omega (arith, ap (length {A = ℕ}) (none_left file r s end.0))), end.1);
    }

-- what is held is not too long for a line
short : (r : Reader) → Dry r → is_too_long r.kept ≡ false
short r dry = le-ltb LINE_MOST (length r.kept) dry.short

-- a file that breaks behind what is held gives no more lines
pub stops_broken : (file : File) (r : Reader) → Dry r → Sound r → length file.bytes ≤ r.place + length r.kept → file.broken ≡ true → Stands file r → Ends (left_in file r) Broken
stops_broken file r dry sound end broken s =
    let e = left_at_end file r s (none_left file r s end) ∙ ap (λ b. lines_within (file_most - r.place) r.number (record { bytes = r.kept; broken = b })) broken in
    let stop = broken_left (file_most - r.place) r.number r.kept (lacks r.kept dry.none) (short r dry) (omega (arith, sound.within)) in
    (ap (λ f. f.lines) e ∙ stop.0, ap (λ f. f.tail) e ∙ stop.1)

-- nor does one that goes on where the most bytes of it were read
pub stops_long : (file : File) (r : Reader) → Dry r → r.place + length r.kept ≡ file_most → file_most < length file.bytes → Stands file r → Ends (left_in file r) (LongFile r.number)
stops_long file r dry all more s =
    let e = left_held file r s in
    let stop = long_left (file_most - r.place) r.number file.broken r.kept s.rest (lacks r.kept dry.none) (short r dry) (omega (arith, all)) (omega (arith, size_left file r s, all, more)) in
    (ap (λ f. f.lines) e ∙ stop.0, ap (λ f. f.tail) e ∙ stop.1)

-- what a reader makes of the end of the file where the most bytes were read
pub end_lines : (file : File) (old new : Reader) (result : Result (Unit {0}) LineFault) → Dry old → Sound old → old.place + length old.kept ≡ file_most → SeesEnd old new result → EndsAt file file_most result → Stands file old
    → MatchResult result (λ _. left_in file new ≡ left_in file old) (λ why. Stops (left_in file old) new why)
end_lines file old new (Ok _) dry sound all sees ends s = ap (left_in file) sees
end_lines file old new (Err LineTooLong) dry sound all sees ends s = absurd sees
end_lines file old new (Err FileTooLong) dry sound all sees ends s = subst (λ r. Ends (left_in file old) (LongFile r.line)) (sym sees) (stops_long file old dry all ends s)
end_lines file old new (Err Fault) dry sound all sees ends s = stops_broken file old dry sound (omega (arith, ends.0, all)) ends.1 s

pub end_stands : (file : File) (old new : Reader) (result : Result (Unit {0}) LineFault) → old.place + length old.kept ≡ file_most → SeesEnd old new result → EndsAt file file_most result → Stands file old → OnOk result (Stands file new)
end_stands file old new (Ok _) all sees ends s = subst (Stands file) (sym sees) (stands_at_end file old old.held (omega (arith, ends.0, all)) ends.1 s)
end_stands file old new (Err _) all sees ends s = tt

-- what a reader makes of a piece
pub piece_lines : (file : File) (most : ℕ) (old new : Reader) (result : Result (Unit {0}) LineFault) → Dry old → Sound old → Grew most old new result → GrewIn file (old.place + length old.kept) old new result → Stands file old
    → MatchResult result (λ _. left_in file new ≡ left_in file old) (λ why. Stops (left_in file old) new why)
piece_lines file most old new (Ok _) dry sound grew in_file s = ap (left_in file) grew.3
piece_lines file most old new (Err why) dry sound grew in_file s = subst (Stops (left_in file old) new) (sym grew.0) (stops_broken file old dry sound in_file.0 in_file.1 s)

pub piece_stands : (file : File) (most : ℕ) (old new : Reader) (result : Result (Unit {0}) LineFault) → Grew most old new result → GrewIn file (old.place + length old.kept) old new result → Stands file old → OnOk result (Stands file new)
piece_stands file most old new (Ok _) grew in_file s =
    let same : new ≡ holding [] new.kept (nat_eq in_file.0 0) old = grew.3 ∙ ap (λ e. holding [] new.kept e old) (sym (ap (λ r. r.ended) grew.3) ∙ in_file.2) in
    subst (Stands file) (sym same) (stands_longer file old [] new.kept in_file.0 in_file.1 s)
piece_stands file most old new (Err _) grew in_file s = tt
