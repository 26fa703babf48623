-- Two readings of the same words: they are the same, or both are too high.

use Rattle.std.proofs.Common.{◌≡◌, ℕ, max, nat_le, Result, Ok, Err, refl, sym, ◌∙◌, ap, arith}
use Rattle.std.proofs.lemmas.Bool.{leb-true, leb-false}
use Rattle.mos_expr.specs.Laws.{answer_at}
use Rattle.mos_expr.specs.declared.fault.ExprFault.{ExprFault}
use Rattle.mos_expr.specs.declared.fault.ExprFault.TheVariants as fault
use Rattle.mos_tree.specs.declared.form.Form.{Form}
use Rattle.mos_tree.specs.declared.form.Form.TheVariants as form_kind
use Rattle.mos_tree.specs.declared.form.PieceKind.{PieceKind}
use Rattle.mos_tree.specs.Forms.{piece_kind_of}
use Rattle.mos_form.specs.Telling.{by_height}
use Rattle.mos_form.proofs.Telling.{on_bool}

-- the form of what is said of words
abbrev form_from : {T : Type 0} → (T → Form) → PieceKind → Result T ExprFault → Form
form_from make kind (Ok made) = make made
form_from make kind (Err fault) = form_kind.TooHigh kind

answered : {T : Type 0} (make : T → Form) (kind : PieceKind) → ((x : T) → piece_kind_of (make x) ≡ kind) → (a : T) (h : ℕ) → by_height h (make a) ≡ form_from make kind (answer_at a h)
answered make kind alike a h = on_bool (nat_le h 500) (λ e. rw e refl) (λ e. rw e (ap form_kind.TooHigh (alike a)))

pub same_form : {T : Type 0} (make : T → Form) (kind : PieceKind) → ((x : T) → piece_kind_of (make x) ≡ kind) → (a b : T) (h i : ℕ) → answer_at a h ≡ answer_at b i
    → by_height h (make a) ≡ by_height i (make b)
same_form make kind alike a b h i e = answered make kind alike a h ∙ ap (form_from make kind) e ∙ sym (answered make kind alike b i)

-- a whole of two parts
abbrev pair : {A B : Type 0} → A → B → A × B
pair a b = (a, b)

abbrev both : {A B : Type 0} → Result A ExprFault → Result B ExprFault → Result (A × B) ExprFault
both (Ok a) (Ok b) = Ok (pair a b)
both _ _ = Err fault.Deep

pair_at : {A B : Type 0} (a : A) (b : B) (h i : ℕ) → answer_at (pair a b) (max h i) ≡ both (answer_at a h) (answer_at b i)
pair_at a b h i = on_bool (nat_le (max h i) 500)
    (λ e. on_bool (nat_le h 500)
    (λ k. on_bool (nat_le i 500) (λ l. rw (e, k, l) refl) (λ l. absurd (omega (arith, leb-true (max h i) 500 e, leb-false i 500 l))))
    (λ k. absurd (omega (arith, leb-true (max h i) 500 e, leb-false h 500 k))))
    (λ e. on_bool (nat_le h 500)
    (λ k. on_bool (nat_le i 500) (λ l. absurd (omega (arith, leb-false (max h i) 500 e, leb-true h 500 k, leb-true i 500 l))) (λ l. rw (e, k, l) refl))
    (λ k. rw (e, k) refl))

pub same_pair : {A B : Type 0} (a c : A) (b d : B) (h j i l : ℕ) → answer_at a h ≡ answer_at c j → answer_at b i ≡ answer_at d l → answer_at (pair a b) (max h i) ≡ answer_at (pair c d) (max j l)
same_pair a c b d h j i l e k = pair_at a b h i ∙ ap (λ z. both z (answer_at b i)) e ∙ ap (both (answer_at c j)) k ∙ sym (pair_at c d j l)
