-- The lines of a file of which the first bytes are known.
use Rattle.std.proofs.Common.{◌≡◌, ◌<◌, ◌≤◌, ◌+◌, ◌-◌, ℕ, suc, Bool, false, true, ◌||◌, ◌&&◌, List, [], ◌∷◌, ◌++◌, length, take, nat_lt, ap, refl, ◌∙◌, arith, take_all, length-append}
use Rattle.std.proofs.lemmas.Bool.{lt-ltb, le-ltb, ltb-true}
use Rattle.std.proofs.lemmas.Bool.Decides.{nat_tests}
use Rattle.std.proofs.lemmas.List.{take-append-le}
use Rattle.std.proofs.Math.Seq.{take-append-add}
use Rattle.wf_io.specs.declared.limits.TheConstants.{LINE_MOST}
use Rattle.wf_io.specs.Lines.{Line, FileLines, Tail, AtEnd, Broken, LongFile, is_given, is_too_long, text_of, parts_of, with_line, lines_from, last_number, lines_before, tail_of, is_at_end, lines_within}
use Rattle.wf_io.specs.Readers.{Ends}
use Rattle.wf_io.proofs.Cutting.{Lacks, cut_at, uncut, some_part, begins}

-- a line stands before the lines of a file if it is given
abbrev pub put_line : Bool → ℕ → List ℕ → FileLines → FileLines
put_line given k raw file = record { lines = with_line given k raw file.lines; tail = file.tail }

-- the first bytes of a line with its newline and of what is behind it
take_line : (most : ℕ) (raw more : List ℕ) → length raw < most → take most (raw ++ 10 ∷ more) ≡ raw ++ 10 ∷ take (most - suc (length raw)) more
take_line most raw more below =
    let sum : most ≡ length raw + suc (most - suc (length raw)) = omega (arith, below) in
    ap (λ n. take n (raw ++ 10 ∷ more)) sum ∙ take-append-add raw (10 ∷ more) (suc (most - suc (length raw)))

-- a line before parts of which there is one at least
line_first : (long broken : Bool) (k : ℕ) (raw part : List ℕ) (parts : List (List ℕ)) (all : List (List ℕ)) → all ≡ part ∷ parts
    → lines_before (tail_of long broken (last_number k (raw ∷ all))) k (raw ∷ all) ≡ put_line (is_given raw) k raw (lines_before (tail_of long broken (last_number (suc k) all)) (suc k) all)
line_first long broken k raw part parts [] e = absurd (cc)
line_first long broken k raw part parts (p ∷ ps) e = refl

-- a line with its newline is the first
pub line_left : (most k : ℕ) (broken : Bool) (raw more : List ℕ) → Lacks raw → length raw < most
    → lines_within most k (record { bytes = raw ++ 10 ∷ more; broken = broken }) ≡ put_line (is_given raw) k raw (lines_within (most - suc (length raw)) (suc k) (record { bytes = more; broken = broken }))
line_left most k broken raw more none below =
    let m = most - suc (length raw) in
    let parts : parts_of (take most (raw ++ 10 ∷ more)) ≡ raw ∷ parts_of (take m more) = ap parts_of (take_line most raw more below) ∙ cut_at raw (take m more) none in
    let size = length-append raw (10 ∷ more) in
    let long : nat_lt most (length (raw ++ 10 ∷ more)) ≡ nat_lt m (length more) = grind (arith, nat_tests, size, below) in
    let s = some_part (take m more) in
    ap (λ ps. lines_before (tail_of (nat_lt most (length (raw ++ 10 ∷ more))) broken (last_number k ps)) k ps) parts
    ∙ ap (λ l. lines_before (tail_of l broken (last_number k (raw ∷ parts_of (take m more)))) k (raw ∷ parts_of (take m more))) long
    ∙ line_first (nat_lt m (length more)) broken k raw s.0 s.1 (parts_of (take m more)) s.2

-- what is left where no newline is left, all of it within the most
whole_parts : (most k : ℕ) (broken : Bool) (raw : List ℕ) → Lacks raw → length raw ≤ most
    → lines_within most k (record { bytes = raw; broken = broken }) ≡ lines_before (tail_of false broken k) k (raw ∷ [])
whole_parts most k broken raw none within =
    let parts : parts_of (take most raw) ≡ raw ∷ [] = ap parts_of (take_all most raw within) ∙ uncut raw none in
    ap (λ ps. lines_before (tail_of (nat_lt most (length raw)) broken (last_number k ps)) k ps) parts
    ∙ ap (λ l. lines_before (tail_of l broken k) k (raw ∷ [])) (le-ltb most (length raw) within)

-- a line is given at the end of a whole file as before a newline
given_last : (k : ℕ) (raw : List ℕ) (long some : Bool) → with_line (long || (true && (long || some))) k raw [] ≡ with_line (long || some) k raw []
given_last k raw true some = refl
given_last k raw false some = refl

-- the last line of a whole file
pub last_left : (most k : ℕ) (raw : List ℕ) → Lacks raw → length raw ≤ most
    → lines_within most k (record { bytes = raw; broken = false }) ≡ record { lines = with_line (is_given raw) k raw []; tail = AtEnd }
last_left most k raw none within =
    whole_parts most k false raw none within ∙ ap (λ l. record { lines = l; tail = AtEnd }) (given_last k raw (is_too_long raw) (nat_lt 0 (length (text_of raw))))

-- a line that is not too long is none where the file does not end behind it
no_line : (k : ℕ) (raw : List ℕ) (tail : Tail) → is_at_end tail ≡ false → is_too_long raw ≡ false → lines_from (is_at_end tail) k (raw ∷ []) ≡ []
no_line k raw tail unended short = ap (λ e. with_line (is_too_long raw || (e && is_given raw)) k raw []) unended ∙ ap (λ l. with_line (l || (false && is_given raw)) k raw []) short

-- a broken file gives no line behind its last newline
pub broken_left : (most k : ℕ) (raw : List ℕ) → Lacks raw → is_too_long raw ≡ false → length raw ≤ most
    → Ends (lines_within most k (record { bytes = raw; broken = true })) Broken
broken_left most k raw none short within =
    let e = whole_parts most k true raw none within in
    (ap (λ f. f.lines) e ∙ no_line k raw Broken refl short, ap (λ f. f.tail) e)

-- a file that goes on where the most bytes of it are read, in this line
pub long_left : (most k : ℕ) (broken : Bool) (raw more : List ℕ) → Lacks raw → is_too_long raw ≡ false → length raw ≡ most → 0 < length more
    → Ends (lines_within most k (record { bytes = raw ++ more; broken = broken })) (LongFile k)
long_left most k broken raw more none short all some =
    let size = length-append raw more in
    let taken : take most (raw ++ more) ≡ raw = take-append-le most raw more (omega (arith, all)) ∙ take_all most raw (omega (arith, all)) in
    let parts : parts_of (take most (raw ++ more)) ≡ raw ∷ [] = ap parts_of taken ∙ uncut raw none in
    let long : nat_lt most (length (raw ++ more)) ≡ true = lt-ltb most (length (raw ++ more)) (omega (arith, size, all, some)) in
    let e : lines_within most k (record { bytes = raw ++ more; broken = broken }) ≡ lines_before (LongFile k) k (raw ∷ []) =
    ap (λ ps. lines_before (tail_of (nat_lt most (length (raw ++ more))) broken (last_number k ps)) k ps) parts ∙ ap (λ l. lines_before (tail_of l broken k) k (raw ∷ [])) long in
    (ap (λ f. f.lines) e ∙ no_line k raw (LongFile k) refl short, ap (λ f. f.tail) e)

-- the first of parts is a line where it is too long, whatever follows
long_first : (ended : Bool) (k : ℕ) (raw : List ℕ) (parts : List (List ℕ)) → is_too_long raw ≡ true → (later : List Line) × (lines_from ended k (raw ∷ parts) ≡ record { number = k; raw = raw } ∷ later)
long_first ended k raw [] long = ([], ap (λ l. with_line (l || (ended && is_given raw)) k raw []) long)
long_first ended k raw (p ∷ ps) long =
    let later = lines_from ended (suc k) (p ∷ ps) in
    (later, ap (λ l. with_line (l || nat_lt 0 (length (text_of raw))) k raw later) long)

-- the first bytes of those that begin with these
take_begun : (most : ℕ) (raw more : List ℕ) → length raw ≤ most → take most (raw ++ more) ≡ raw ++ take (most - length raw) more
take_begun most raw more within =
    let sum : most ≡ length raw + (most - length raw) = omega (arith, within) in
    ap (λ n. take n (raw ++ more)) sum ∙ take-append-add raw more (most - length raw)

-- bytes without a newline that are too long for a line begin the first line, which is too long
pub too_long_left : (most k : ℕ) (broken : Bool) (raw more : List ℕ) → Lacks raw → is_too_long raw ≡ true → length raw ≤ most
    → (first : Line) × (later : List Line) × ((lines_within most k (record { bytes = raw ++ more; broken = broken })).lines ≡ first ∷ later) × (is_too_long first.raw ≡ true) × (k ≡ first.number)
too_long_left most k broken raw more none long within =
    let b = begins raw (take (most - length raw) more) none in
    let parts : parts_of (take most (raw ++ more)) ≡ (raw ++ b.0) ∷ b.1 = ap parts_of (take_begun most raw more within) ∙ b.2 in
    let tail = tail_of (nat_lt most (length (raw ++ more))) broken (last_number k (parts_of (take most (raw ++ more)))) in
    let size = length-append raw b.0 in
    let above = ltb-true LINE_MOST (length raw) long in
    let longer : is_too_long (raw ++ b.0) ≡ true = lt-ltb LINE_MOST (length (raw ++ b.0)) (omega (arith, size, above)) in
    let f = long_first (is_at_end tail) k (raw ++ b.0) b.1 longer in
    (record { number = k; raw = raw ++ b.0 }, f.0, ap (lines_from (is_at_end tail) k) parts ∙ f.1, longer, refl)
