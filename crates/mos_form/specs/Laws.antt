-- Laws of the forms of pieces: words have a form, and only one.

use Rattle.std.specs.Prelude.{◌≡◌, List}
use Rattle.mos_scan.specs.declared.grammar_word.Word.{Word}
use Rattle.mos_tree.specs.declared.form.Form.{Form}
use Rattle.mos_form.specs.Phrases.{IsFormOf}

-- there are no words without a form
abbrev pub NoWordsLackAForm : Type 0
NoWordsLackAForm = (words : List Word) → ((form : Form) → IsFormOf words form → ⊥) → ⊥

-- words have at most one form
abbrev pub HaveOneForm : Type 0
HaveOneForm = (words : List Word) (one other : Form) → IsFormOf words one → IsFormOf words other
    → one ≡ other
