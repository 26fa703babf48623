-- Laws of types and formals: their sizes, and that words are one of them.

use Rattle.std.specs.Prelude.{◌≡◌, ℕ, ◌≤◌, List, length}
use Rattle.mos_tree.specs.declared.declaration.TypeForm.{TypeForm}
use Rattle.mos_tree.specs.declared.declaration.FormalGroup.{FormalGroup}
use Rattle.mos_tree.specs.Sizes.{size_of_type, size_of_formals}
use Rattle.mos_scan.specs.declared.grammar_word.Word.{Word}
use Rattle.mos_expr.specs.Laws.{answer_at}
use Rattle.mos_typing.specs.Spellings.{IsTypeForm, AreFormalGroups}
use Rattle.mos_typing.specs.Typing.{Typing, Formals, IsTyping, AreFormals, type_of, formals_of, tallest_type, tallest_formals}

-- the expressions in a type have no more nodes than the words are many
abbrev pub TypeIsSmall : Type 0
TypeIsSmall = (words : List Word) (made : TypeForm) (high : ℕ) → IsTypeForm words made high → size_of_type made ≤ length words

-- those in formals with their brackets, or none, neither
abbrev pub FormalsAreSmall : Type 0
FormalsAreSmall = (words : List Word) (made : List FormalGroup) (high : ℕ) → AreFormalGroups words made high → size_of_formals made ≤ length words

-- words are at most one type, or are too high in each way that they are spelled
abbrev pub AreOneType : Type 0
AreOneType = (words : List Word) (x y : Typing) → IsTyping words x → IsTyping words y
    → answer_at (type_of x) (tallest_type x) ≡ answer_at (type_of y) (tallest_type y)

-- and at most one list of formals
abbrev pub AreOneList : Type 0
AreOneList = (words : List Word) (xs ys : Formals) → AreFormals words xs → AreFormals words ys
    → answer_at (formals_of xs) (tallest_formals xs) ≡ answer_at (formals_of ys) (tallest_formals ys)
