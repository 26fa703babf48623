-- As the code reads, apart from what the public clauses say: what words come to, as functions: the
-- first reading, which the code follows.

use Rattle.std.specs.Prelude.{ℕ, List, [], ◌∷◌, ◌++◌, Option, Some, None, Result, Ok, Err}
use Rattle.mos_tree.specs.declared.declaration.BaseType.{BaseType}
use Rattle.mos_tree.specs.declared.declaration.BaseType.TheVariants as base
use Rattle.mos_tree.specs.declared.declaration.TypeForm.{TypeForm}
use Rattle.mos_tree.specs.declared.declaration.TypeForm.TheVariants as typ
use Rattle.mos_tree.specs.declared.declaration.FormalGroup.{FormalGroup}
use Rattle.mos_scan.specs.declared.token.TokenKind.TheVariants as token_kind
use Rattle.mos_scan.specs.declared.grammar_word.Word.{Word}
use Rattle.mos_scan.specs.declared.grammar_word.Word.TheVariants as word_kind
use Rattle.mos_expr.specs.declared.fault.ExprFault.{ExprFault}
use Rattle.mos_expr.specs.declared.fault.ExprFault.TheVariants as expr_fault
use Rattle.mos_typing.specs.Joining.{on_ok, or_nothing}

-- the type that the word is
abbrev pub base_of : Word → Option BaseType
base_of (word_kind.Key token_kind.Integer) = Some base.Integer
base_of (word_kind.Key token_kind.Boolean) = Some base.Boolean
base_of (word_kind.Key token_kind.StringWord) = Some base.Text
base_of (word_kind.Name n) = Some (base.Named n)
base_of _ = None

-- what is done, before what else there is
abbrev pub onto : {A : Type 0} → List A → Option (List A) → Option (List A)
onto done None = None
onto done (Some more) = Some (done ++ more)

-- the names that the words are, with commas between them
abbrev pub names_of : List Word → Option (List (List ℕ))
names_of (word_kind.Name n ∷ []) = Some (n ∷ [])
names_of (word_kind.Name n ∷ word_kind.Key token_kind.Comma ∷ rest) = onto (n ∷ []) (names_of rest)
names_of _ = None

-- names of one type
abbrev pub group_of : List (List ℕ) → TypeForm → FormalGroup
group_of names form = record { names = names; typ = form }

-- the type of words that spell no array
abbrev pub plain_type : List Word → Result TypeForm ExprFault
plain_type (word_kind.Key token_kind.Range ∷ []) = Ok typ.Range
plain_type (word_kind.Key token_kind.Set ∷ word_kind.Key token_kind.Of ∷ b ∷ []) = on_ok typ.Set (or_nothing (base_of b))
plain_type (word_kind.Key token_kind.List ∷ word_kind.Key token_kind.Of ∷ b ∷ []) = on_ok typ.List (or_nothing (base_of b))
plain_type (b ∷ []) = on_ok typ.Base (or_nothing (base_of b))
plain_type _ = Err expr_fault.NoExpr
