-- What a reader makes of the lines that it holds.
use Rattle.std.proofs.Common.{◌≡◌, ◌<◌, ◌≤◌, ◌+◌, ◌-◌, ℕ, Bool, false, true, cond, ◌==◌, ◌||◌, List, [], length, take, position, Some, Result, Ok, Err, MatchResult, nat_lt, ap, sym, refl, subst, ◌∙◌, arith, length-drop, take_all}
use Rattle.std.proofs.lemmas.List.Quantifiers.{position-Some}
use Rattle.wf_io.specs.Told.{File}
use Rattle.wf_io.specs.Lines.{FileLines, AtEnd, is_given, is_too_long, with_line, text_of}
use Rattle.wf_io.specs.Readers.{Reader, Stands, left_in, left_over, file_most, Lends, Refuses, Ends, TellsLine, reached}
use Rattle.wf_io.specs.Steps.{behind, refused, wanting, HasNoNewline, Sound, Skips, Lent, Refused, Takes, Sought}
use Rattle.wf_io.specs.declared.lines.LineFault.{LineFault}
use Rattle.wf_io.specs.declared.lines.LineFault.TheVariants.{LineTooLong}
use Rattle.wf_io.proofs.Cutting.{lacks}
use Rattle.wf_io.proofs.Leaving.{put_line, too_long_left}
use Rattle.wf_io.proofs.Standing.{stands_behind, left_behind, left_last, left_none, left_held}

-- nothing was passed
pub skips_none : (r : Reader) → Skips r r
skips_none r = record { stands = λ file s. s; left = λ file s. refl; name = refl; live = refl; line = refl; number = omega arith; reached = refl; ended = refl; less = omega arith }

-- nor is anything where it only wants bytes
pub skips_wanting : (r : Reader) (wants : Bool) → Skips r (wanting wants r)
skips_wanting r wants = record {
  stands = λ file s. record { rest = s.rest; bytes = s.bytes; within = s.within; whole = s.whole };
  left = λ file s. refl;
  name = refl;
  live = refl;
  line = refl;
  number = omega arith;
  reached = refl;
  ended = refl;
  less = omega arith;
}

-- lines that are passed, one after the other
pub skips_twice : (a b c : Reader) → Skips a b → Skips b c → Skips a c
skips_twice a b c p q = record {
  stands = λ file s. q.stands file (p.stands file s);
  left = λ file s. q.left file (p.stands file s) ∙ p.left file s;
  name = q.name ∙ p.name;
  live = q.live ∙ p.live;
  line = q.line ∙ p.line;
  number = omega (arith, p.number, q.number);
  reached = q.reached ∙ p.reached;
  ended = q.ended ∙ p.ended;
  less = omega (arith, p.less, q.less);
}

-- lines that are passed before one that is lent
pub lent_after : (a b c : Reader) → Skips a b → Lent b c → Lent a c
lent_after a b c p q = record {
  stands = λ file s. q.stands file (p.stands file s);
  lends = λ file s. subst (λ l. Lends l c (left_in file c)) (p.left file s) (q.lends file (p.stands file s));
  name = q.name ∙ p.name;
  live = q.live ∙ p.live;
  later = omega (arith, p.line, q.later);
  line = omega (arith, p.number, q.line);
  next = q.next;
  reached = q.reached ∙ p.reached;
  ended = q.ended ∙ p.ended;
  wants = q.wants;
  less = omega (arith, p.less, q.less);
}

-- lines that are passed before one that is refused
pub refused_after : (a b c : Reader) → Skips a b → Refused b c → Refused a c
refused_after a b c p q = record {
  refuses = λ file s. subst (λ l. Refuses l c) (p.left file s) (q.refuses file (p.stands file s));
  name = q.name ∙ p.name;
  live = q.live;
  number = omega (arith, p.number, q.number);
  line = q.line;
  reached = q.reached ∙ p.reached;
  ended = q.ended ∙ p.ended;
  less = omega (arith, p.less, q.less);
}

-- what all that is held gives, behind lines that are passed
pub sought_after : (a b c : Reader) (result : Result Bool LineFault) → Skips a b → Sought b c result → Sought a c result
sought_after a b c (Ok true) p q = lent_after a b c p q
sought_after a b c (Ok false) p q = (skips_twice a b c p q.0, λ still file s. subst (λ l. Ends l AtEnd) (p.left file s) (q.1 still file (p.stands file s)))
sought_after a b c (Err why) p q = (q.0, refused_after a b c p q.1)

-- how much is left to do behind a line
less_behind : (r : Reader) (given : Bool) (size whole : ℕ) → 0 < whole → whole ≤ length r.kept → Sound r → left_over (behind given size whole r) < left_over r
less_behind r given size whole some held sound = omega (arith, length-drop whole r.kept, some, held, sound.within)

-- behind a line that was held, as much of the file is read
reached_behind : (r : Reader) (given : Bool) (size whole : ℕ) → whole ≤ length r.kept → reached (behind given size whole r) ≡ reached r
reached_behind r given size whole held = omega (arith, length-drop whole r.kept, held)

-- a line that is lent, since it is given
lends_first : (old new : FileLines) (k : ℕ) (raw : List ℕ) (r : Reader) → old ≡ put_line (is_given raw) k raw new → is_given raw ≡ true → is_too_long raw ≡ false → r.held ≡ text_of raw → r.line ≡ k → Lends old r new
lends_first old new k raw r e given short text line = record {
  first = record { number = k; raw = raw };
  left = ap (λ f. f.lines) e ∙ ap (λ g. with_line g k raw new.lines) given;
  tail = sym (ap (λ f. f.tail) e);
  short = short;
  text = text;
  number = line;
}

-- a line that is held with its newline is lent
pub lent_line : (r : Reader) (n : ℕ) → position (λ b. b == 10) r.kept ≡ Some n → Sound r → r.live ≡ true → is_too_long (take n r.kept) ≡ false → is_given (take n r.kept) ≡ true → Lent r (behind true n (n + 1) r)
lent_line r n e sound live short given =
    let found = position-Some (λ b. b == 10) r.kept n 0 e in
    let held : n + 1 ≤ length r.kept = omega (arith, found.0) in
    record {
      stands = λ file s. stands_behind file r true n (n + 1) held s;
      lends = λ file s. lends_first (left_in file r) (left_in file (behind true n (n + 1) r)) r.number (take n r.kept) (behind true n (n + 1) r) (left_behind file r true n e sound s) given short refl refl;
      name = refl;
      live = refl;
      later = sound.later live;
      line = omega arith;
      next = refl;
      reached = reached_behind r true n (n + 1) held;
      ended = refl;
      wants = refl;
      less = less_behind r true n (n + 1) (omega arith) held sound;
    }

-- or it is passed
pub skips_line : (r : Reader) (n : ℕ) → position (λ b. b == 10) r.kept ≡ Some n → Sound r → is_given (take n r.kept) ≡ false → Skips r (behind false n (n + 1) r)
skips_line r n e sound given =
    let found = position-Some (λ b. b == 10) r.kept n 0 e in
    let held : n + 1 ≤ length r.kept = omega (arith, found.0) in
    let less = less_behind r false n (n + 1) (omega arith) held sound in
    record {
      stands = λ file s. stands_behind file r false n (n + 1) held s;
      left = λ file s. sym (left_behind file r false n e sound s ∙ ap (λ g. put_line g r.number (take n r.kept) (left_in file (behind false n (n + 1) r))) given);
      name = refl;
      live = refl;
      line = refl;
      number = omega arith;
      reached = reached_behind r false n (n + 1) held;
      ended = refl;
      less = omega (arith, less);
    }

-- a line that is too long is given
long_given : (raw : List ℕ) → is_too_long raw ≡ true → is_given raw ≡ true
long_given raw long = ap (λ l. l || nat_lt 0 (length (text_of raw))) long

-- or it is refused
pub refused_line : (r : Reader) (n : ℕ) → position (λ b. b == 10) r.kept ≡ Some n → Sound r → is_too_long (take n r.kept) ≡ true → Refused r (refused r)
refused_line r n e sound long = record {
  refuses = λ file s. record {
    first = record { number = r.number; raw = take n r.kept };
    later = (left_in file (behind true n (n + 1) r)).lines;
    left = ap (λ f. f.lines) (left_behind file r true n e sound s) ∙ ap (λ g. with_line g r.number (take n r.kept) (left_in file (behind true n (n + 1) r)).lines) (long_given (take n r.kept) long);
    long = long;
    number = refl;
  };
  name = refl;
  live = refl;
  number = omega arith;
  line = refl;
  reached = refl;
  ended = refl;
  less = omega arith;
}

-- what is held with no newline is refused where it is too long
pub refused_begun : (r : Reader) → HasNoNewline r.kept → Sound r → is_too_long r.kept ≡ true → Refused r (refused r)
refused_begun r none sound long = record {
  refuses = λ file s.
      let l = too_long_left (file_most - r.place) r.number file.broken r.kept s.rest (lacks r.kept none) long (omega (arith, sound.within)) in
      record { first = l.0; later = l.1; left = ap (λ f. f.lines) (left_held file r s) ∙ l.2; long = l.3; number = l.4 };
  name = refl;
  live = refl;
  number = omega arith;
  line = refl;
  reached = refl;
  ended = refl;
  less = omega arith;
}

-- what a line that is held with its newline gives
pub holds_line : (old new : Reader) (n : ℕ) (result : Result Bool LineFault) → position (λ b. b == 10) old.kept ≡ Some n → Sound old → old.live ≡ true → Takes n (n + 1) old new result
    → MatchResult result (λ given. cond given (Lent old new) (Skips old new)) (λ why. (why ≡ LineTooLong) × Refused old new)
holds_line old new n (Ok true) e sound live t = subst (Lent old) (sym t.2) (lent_line old n e sound live t.0 t.1)
holds_line old new n (Ok false) e sound live t = subst (Skips old) (sym t.2) (skips_line old n e sound t.1)
holds_line old new n (Err why) e sound live t = (t.0, subst (Refused old) (sym t.2) (refused_line old n e sound t.1))

-- what the last line of a whole file gives
pub sought_last : (old new : Reader) (size : ℕ) (result : Result Bool LineFault) → size ≡ length old.kept → 0 < size → HasNoNewline old.kept → old.ended ≡ true → Sound old → old.live ≡ true → Takes size size old new result → Sought old new result
sought_last old new size (Ok true) all some none ended sound live t =
    let same : take size old.kept ≡ old.kept = take_all size old.kept (omega (arith, all)) in
    let e : Lent old (behind true size size old) = record {
      stands = λ file s. stands_behind file old true size size (omega (arith, all)) s;
      lends = λ file s. lends_first (left_in file old) (left_in file (behind true size size old)) old.number old.kept (behind true size size old)
          (left_last file old none ended sound s ∙ ap (put_line (is_given old.kept) old.number old.kept) (sym (left_none file old true size all ended sound s)))
          (ap is_given (sym same) ∙ t.1) (ap is_too_long (sym same) ∙ t.0) (ap text_of same) refl;
      name = refl;
      live = refl;
      later = sound.later live;
      line = omega arith;
      next = refl;
      reached = reached_behind old true size size (omega (arith, all));
      ended = refl;
      wants = refl;
      less = less_behind old true size size some (omega (arith, all)) sound;
    } in
    subst (Lent old) (sym t.2) e
sought_last old new size (Ok false) all some none ended sound live t =
    let same : take size old.kept ≡ old.kept = take_all size old.kept (omega (arith, all)) in
    let less = less_behind old false size size some (omega (arith, all)) sound in
    let last : (file : File) → Stands file old → left_in file old ≡ record { lines = []; tail = AtEnd } =
    λ file s. left_last file old none ended sound s ∙ ap (λ g. record { lines = with_line g old.number old.kept []; tail = AtEnd }) (ap is_given (sym same) ∙ t.1) in
    let e : Skips old (behind false size size old) = record {
      stands = λ file s. stands_behind file old false size size (omega (arith, all)) s;
      left = λ file s. left_none file old false size all ended sound s ∙ sym (last file s);
      name = refl;
      live = refl;
      line = refl;
      number = omega arith;
      reached = reached_behind old false size size (omega (arith, all));
      ended = refl;
      less = omega (arith, less);
    } in
    (subst (Skips old) (sym t.2) e, λ still file s. (ap (λ f. f.lines) (last file s), ap (λ f. f.tail) (last file s)))
sought_last old new size (Err why) all some none ended sound live t =
    let same : take size old.kept ≡ old.kept = take_all size old.kept (omega (arith, all)) in
    (t.0, subst (Refused old) (sym t.2) (refused_begun old none sound (ap is_too_long (sym same) ∙ t.1)))

-- what is held gives no line where more bytes are wanted, or where nothing is held at the end of the file
pub sought_none : (old : Reader) (wants : Bool) → HasNoNewline old.kept → Sound old → (wants ≡ false → (old.ended ≡ true) × (old.kept ≡ [])) → Sought old (wanting wants old) (Ok false)
sought_none old wants none sound end = (
  skips_wanting old wants,
  λ still file s.
      let at_end = end still in
      let e = left_last file old none at_end.0 sound s ∙ ap (λ b. record { lines = with_line (is_given b) old.number b []; tail = AtEnd }) at_end.1 in
      (ap (λ f. f.lines) e, ap (λ f. f.tail) e),
)

-- what the next line that is held gives, behind lines that are passed
pub holds_after : (start at again new : Reader) (n : ℕ) (result : Result Bool LineFault) → Skips start at → again ≡ at → position (λ b. b == 10) at.kept ≡ Some n → Sound at → start.live ≡ true → Takes n (n + 1) again new result
    → MatchResult result (λ given. cond given (Lent start new) (Skips start new)) (λ why. (why ≡ LineTooLong) × Refused start new)
holds_after start at again new n result skips same e sound live t = after result (holds_line at new n result e sound (skips.live ∙ live) (subst (λ r. Takes n (n + 1) r new result) same t))
  where
    after : (result : Result Bool LineFault) → MatchResult result (λ given. cond given (Lent at new) (Skips at new)) (λ why. (why ≡ LineTooLong) × Refused at new)
        → MatchResult result (λ given. cond given (Lent start new) (Skips start new)) (λ why. (why ≡ LineTooLong) × Refused start new)
    after (Ok true) h = lent_after start at new skips h
    after (Ok false) h = skips_twice start at new skips h
    after (Err why) h = (h.0, refused_after start at new skips h.1)

-- what all that is held gives tells which line was lent or refused last
pub sought_tells : (old new : Reader) (result : Result Bool LineFault) → Sought old new result → TellsLine old new result
sought_tells old new (Ok true) h = (h.line, h.next)
sought_tells old new (Ok false) h = (h.0.number, h.0.line)
sought_tells old new (Err why) h = subst (λ f. TellsLine old new (Err f)) (sym h.0) (h.1.number, h.1.line)
