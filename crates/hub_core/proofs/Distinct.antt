-- Names that differ, file by file.
use Rattle.std.proofs.Common.{◌≡◌, ◌≢◌, ◌≤◌, ℕ, Bool, true, false, ◌||◌, List, [], ◌∷◌, refl, sym, ap, ◌∙◌, length, drop, take, take_all, get_or, subst, arith}
use Rattle.std.specs.Prelude.{All}
use Rattle.std.specs.List.{list_any}
use Rattle.std.specs.Str.{bytes_eq}
use Rattle.std.proofs.lemmas.List.Elements.{All-nil, All-cons, All-weaker}
use Rattle.std.proofs.lemmas.List.Folds.{list_any_none}
use Rattle.std.proofs.lemmas.Slice.Eq.{bytes_eq-Decides}
use Rattle.job_calls.specs.declared.entry.Listed.{Listed}
use Rattle.job_calls.specs.Legal.{HaveDistinctNames}

pub false_is_not_true : false ≡ true → ⊥
false_is_not_true e = cc

neither : (a b : Bool) → (a || b) ≡ false → (a ≡ false) × (b ≡ false)
neither true b h = absurd (false_is_not_true (sym h))
neither false b h = (refl, h)

-- no file has this name
all_apart : (name : List ℕ) (files : List Listed) → list_any (λ file. bytes_eq file.name name) files ≡ false → All (λ file. file.name ≢ name) files
all_apart name [] e = All-nil _
all_apart name (x ∷ xs) e =
    let both = neither (bytes_eq x.name name) (list_any (λ file. bytes_eq file.name name) xs) e in
    All-cons (λ (file : Listed). file.name ≢ name) x xs (λ same. false_is_not_true (sym both.0 ∙ (bytes_eq-Decides x.name name).1 same)) (all_apart name xs both.1)

distinct_by : (files : List Listed) (file : Listed) → 1 ≤ length files → file ≡ get_or files 0 file
    → list_any (λ other. bytes_eq other.name file.name) (drop 1 files) ≡ false → HaveDistinctNames (drop 1 files) → HaveDistinctNames files
distinct_by [] file some is apart rest = absurd (omega (arith, some))
distinct_by (x ∷ xs) file some is apart rest =
    (all_apart x.name xs (ap (λ (y : Listed). list_any (λ other. bytes_eq other.name y.name) xs) (sym is) ∙ apart), rest)

-- the first name is none of the others', and those differ
pub distinct_first : (files : List Listed) (file : Listed) (m : ℕ) → 1 ≤ length files → file ≡ get_or files 0 file
    → list_any (λ other. bytes_eq other.name file.name) (take m (drop 1 files)) ≡ false → HaveDistinctNames (take m (drop 1 files))
    → length (drop 1 files) ≤ m → HaveDistinctNames files
distinct_first files file m some is apart rest all =
    let whole : take m (drop 1 files) ≡ drop 1 files = take_all m (drop 1 files) all in
    distinct_by files file some is
    (ap (list_any (λ (other : Listed). bytes_eq other.name file.name)) (sym whole) ∙ apart) (subst HaveDistinctNames whole rest)

not_so : (b : Bool) → (b ≡ true → ⊥) → b ≡ false
not_so true never = absurd (never refl)
not_so false never = refl

none_named : (name : List ℕ) (files : List Listed) → All (λ other. other.name ≢ name) files → list_any (λ other. bytes_eq other.name name) files ≡ false
none_named name files apart =
    list_any_none (λ (other : Listed). bytes_eq other.name name) files
    (All-weaker (λ (other : Listed). other.name ≢ name) (λ other. bytes_eq other.name name ≡ false)
    (λ other differs. not_so (bytes_eq other.name name) (λ same. differs ((bytes_eq-Decides other.name name).0 same))) files apart)

distinct_parts : (files : List Listed) (file : Listed) → 1 ≤ length files → file ≡ get_or files 0 file → HaveDistinctNames files
    → All (λ other. other.name ≢ file.name) (drop 1 files) × HaveDistinctNames (drop 1 files)
distinct_parts [] file some is all = absurd (omega (arith, some))
distinct_parts (x ∷ xs) file some is all =
    (subst (λ (y : Listed). All (λ (other : Listed). other.name ≢ y.name) xs) (sym is) all.0, all.1)

-- where all differ, the first name is none of the others'
pub first_apart : (files : List Listed) (file : Listed) (m : ℕ) → 1 ≤ length files → file ≡ get_or files 0 file
    → length (drop 1 files) ≤ m → HaveDistinctNames files → list_any (λ other. bytes_eq other.name file.name) (take m (drop 1 files)) ≡ false
first_apart files file m some is all distinct =
    ap (list_any (λ (other : Listed). bytes_eq other.name file.name)) (take_all m (drop 1 files) all)
    ∙ none_named file.name (drop 1 files) (distinct_parts files file some is distinct).0

-- and the others differ
pub rest_distinct : (files : List Listed) (file : Listed) (m : ℕ) → 1 ≤ length files → file ≡ get_or files 0 file
    → length (drop 1 files) ≤ m → HaveDistinctNames files → HaveDistinctNames (take m (drop 1 files))
rest_distinct files file m some is all distinct =
    subst HaveDistinctNames (sym (take_all m (drop 1 files) all)) (distinct_parts files file some is distinct).1
