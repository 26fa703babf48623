-- A source has one token list or one lexical fault.

use Rattle.std.proofs.Common.{◌≡◌, ℕ, ◌+◌, ◌<◌, ◌≤◌, ◌⊎◌, inl, inr, true, false, List, [], ◌∷◌, ◌++◌, length, Some, None, Result, Ok, Err, IfOk, IfErr, refl, sym, ◌∙◌, ap, subst, arith, length-append}
use Rattle.mos_text.specs.declared.kind.Kind.{Kind}
use Rattle.mos_scan.specs.declared.token.TokenKind.{TokenKind}
use Rattle.mos_scan.specs.declared.token.TokenKind.TheVariants.{EndModel}
use Rattle.mos_scan.specs.declared.token.Token.{Token}
use Rattle.mos_scan.specs.declared.fault.LexFault.{LexFault}
use Rattle.mos_scan.specs.declared.fault.LexFault.TheVariants as lex_fault
use Rattle.mos_scan.specs.Scans.{IsFaultOf, IsNoMemory, Names, GivesFault}
use Rattle.mos_scan.specs.Tokens.{gap_at, fault_at, kind_of}
use Rattle.mos_scan.specs.Cuts.{Part, gap, token, text_of, is_end, IsPart, IsToken, Cuts, Whole, up_to_the_end, up_to_end_model, tokens_from, Stops, read_whole, read_to_fault, IsTokenList, IsLexicalFault, no_utf8, no_token, IsRead, line_of, column_of, newlines}
use Rattle.std.specs.Str.Lossy.{utf8_valid_len}
use Rattle.std.proofs.lemmas.List.{append-nil}

-- two ways to cut one text: one front goes on behind the other
abbrev Ahead : List ℕ → List ℕ → List ℕ → List ℕ → Type 0
Ahead xs ys us vs = (more : List ℕ) × (us ≡ xs ++ more) × (ys ≡ more ++ vs)

overlap : (xs ys us vs : List ℕ) → xs ++ ys ≡ us ++ vs → Ahead xs ys us vs ⊎ Ahead us vs xs ys
overlap [] ys us vs e = inl (us, refl, e)
overlap (x ∷ xs) ys [] vs e = inr (x ∷ xs, refl, sym e)
overlap (x ∷ xs) ys (u ∷ us) vs e =
    let head : x ≡ u = cc in
    let tail : xs ++ ys ≡ us ++ vs = cc in
    elim (overlap xs ys us vs tail) [
      | inl a ↦ inl (a.0, (let h : u ∷ us ≡ x ∷ (xs ++ a.0) = cc in h), a.2)
      | inr b ↦ inr (b.0, (let h : x ∷ xs ≡ u ∷ (us ++ b.0) = cc in h), b.2)
    ]

-- what a place has is one part
abbrev Same : Part → List ℕ → Part → List ℕ → Type 0
Same x rest y after = (x ≡ y) × (rest ≡ after)

longer_not : (kind other : TokenKind) (xs ys us vs more : List ℕ) → IsToken kind xs ys → IsToken other us vs → us ≡ xs ++ more → ys ≡ more ++ vs → more ≡ []
longer_not kind other xs ys us vs [] s t e h = refl
longer_not kind other xs ys us vs (m ∷ ms) s t e h =
    let none : kind_of (xs ++ m ∷ ms) ≡ None = s.longest (m ∷ ms) vs h (λ n. cc) in
    let some : kind_of (xs ++ m ∷ ms) ≡ Some other = subst (λ x. kind_of x ≡ Some other) e t.form in
    absurd (let x : None ≡ Some other = sym none ∙ some in cc)

same_tokens : (kind other : TokenKind) (xs ys us vs : List ℕ) → IsToken kind xs ys → IsToken other us vs → xs ≡ us → ys ≡ vs → Same (token kind xs) ys (token other us) vs
same_tokens kind other xs ys us vs s t e h =
    let f : kind_of us ≡ Some kind = subst (λ x. kind_of x ≡ Some kind) e s.form in
    let g : Some kind ≡ Some other = sym f ∙ t.form in
    let k : kind ≡ other = cc in
    (cc, h)

one_token : (kind other : TokenKind) (xs ys us vs : List ℕ) → xs ++ ys ≡ us ++ vs → IsToken kind xs ys → IsToken other us vs → Same (token kind xs) ys (token other us) vs
one_token kind other xs ys us vs e s t =
    elim (overlap xs ys us vs e) [
      | inl a ↦
          (let n : a.0 ≡ [] = longer_not kind other xs ys us vs a.0 s t a.1 a.2 in
          let p : us ≡ xs = a.1 ∙ ap (λ m. xs ++ m) n ∙ append-nil xs in
          let q : ys ≡ vs = a.2 ∙ ap (λ m. m ++ vs) n in
          same_tokens kind other xs ys us vs s t (sym p) q)
      | inr b ↦
          (let n : b.0 ≡ [] = longer_not other kind us vs xs ys b.0 t s b.1 b.2 in
          let p : xs ≡ us = b.1 ∙ ap (λ m. us ++ m) n ∙ append-nil us in
          let q : vs ≡ ys = b.2 ∙ ap (λ m. m ++ ys) n in
          same_tokens kind other xs ys us vs s t p (sym q))
    ]

none_left : (more : List ℕ) (xs us : List ℕ) → us ≡ xs ++ more → length xs ≡ length us → more ≡ []
none_left [] xs us e h = refl
none_left (m ∷ ms) xs us e h = absurd (omega (arith, h, ap length e, length-append xs (m ∷ ms)))

one_gap : (xs ys us vs : List ℕ) → xs ++ ys ≡ us ++ vs → length xs ≡ length us → Same (gap xs) ys (gap us) vs
one_gap xs ys us vs e h =
    elim (overlap xs ys us vs e) [
      | inl a ↦
          (let n : a.0 ≡ [] = none_left a.0 xs us a.1 h in
          let p : us ≡ xs = a.1 ∙ ap (λ m. xs ++ m) n ∙ append-nil xs in
          (ap (λ z. gap z) (sym p), a.2 ∙ ap (λ m. m ++ vs) n))
      | inr b ↦
          (let n : b.0 ≡ [] = none_left b.0 us xs b.1 (sym h) in
          let p : xs ≡ us = b.1 ∙ ap (λ m. us ++ m) n ∙ append-nil us in
          (ap (λ z. gap z) p, sym (b.2 ∙ ap (λ m. m ++ ys) n)))
    ]

one_part : (x y : Part) (rest after : List ℕ) → text_of x ++ rest ≡ text_of y ++ after → IsPart x rest → IsPart y after → Same x rest y after
one_part (gap xs) (gap us) rest after e p q =
    let h : Some (length xs) ≡ Some (length us) = sym (subst (λ z. gap_at z ≡ Some (length xs)) e p) ∙ q in
    let l : length xs ≡ length us = cc in
    one_gap xs rest us after e l
one_part (gap xs) (token k us) rest after e p q =
    absurd (let h : Some (length xs) ≡ None = sym (subst (λ z. gap_at z ≡ Some (length xs)) e p) ∙ q.no_gap in cc)
one_part (token k xs) (gap us) rest after e p q =
    absurd (let h : None ≡ Some (length us) = sym (subst (λ z. gap_at z ≡ None) e p.no_gap) ∙ q in cc)
one_part (token k xs) (token l us) rest after e p q = one_token k l xs rest us after e p q

-- no part but perhaps `end-model` begins here
Stuck : List ℕ → Type 0
Stuck left = (x : Part) (rest : List ℕ) → left ≡ text_of x ++ rest → IsPart x rest → is_end x ≡ false → ⊥

one_cut : (xs ys : List Part) (bytes left other : List ℕ) → Cuts bytes xs left → Cuts bytes ys other → Stuck left → Stuck other → (xs ≡ ys) × (left ≡ other)
unfolding Stuck
one_cut [] [] bytes left other c d s t = (refl, sym c ∙ d)
one_cut [] (y ∷ ys) bytes left other c d s t = absurd (s y d.0 (sym c ∙ d.1) d.2 d.3)
one_cut (x ∷ xs) [] bytes left other c d s t = absurd (t x c.0 (sym d ∙ c.1) c.2 c.3)
one_cut (x ∷ xs) (y ∷ ys) bytes left other c d s t =
    let same : Same x c.0 y d.0 = one_part x y c.0 d.0 (sym c.1 ∙ d.1) c.2 d.2 in
    let d' : Cuts c.0 ys other = subst (λ z. Cuts z ys other) (sym same.1) d.4 in
    let r : (xs ≡ ys) × (left ≡ other) = one_cut xs ys c.0 left other c.4 d' s t in
    ((let h : x ∷ xs ≡ y ∷ ys = cc in h), r.1)

-- ---- where a cut ends

empty_part : (x : Part) (rest : List ℕ) → [] ≡ text_of x ++ rest → IsPart x rest → ⊥
unfolding gap_at kind_of
empty_part (gap []) [] e p = let h : None ≡ Some 0 = p in cc
empty_part (gap []) (r ∷ rest) e p = cc
empty_part (gap (x ∷ xs)) rest e p = cc
empty_part (token k []) rest e p = let h : None ≡ Some k = p.form in cc
empty_part (token k (x ∷ xs)) rest e p = cc

stuck_at_the_end : Stuck []
unfolding Stuck
stuck_at_the_end x rest e p n = empty_part x rest e p

stuck_at_end_model : (left text after : List ℕ) → left ≡ text ++ after → IsToken EndModel text after → Stuck left
unfolding Stuck
stuck_at_end_model left text after e t x rest e' p n =
    let same : Same (token EndModel text) after x rest = one_part (token EndModel text) x after rest (sym e ∙ e') t p in
    let h : true ≡ false = subst (λ z. is_end z ≡ false) (sym same.0) n in
    cc

stuck_at_fault : (left : List ℕ) {wrong : Kind × ℕ} → gap_at left ≡ None → fault_at left ≡ Some wrong → Stuck left
unfolding Stuck
stuck_at_fault left g f (gap xs) rest e p n = let h : None ≡ Some (length xs) = sym g ∙ subst (λ z. gap_at z ≡ Some (length xs)) (sym e) p in cc
stuck_at_fault left {wrong} g f (token k xs) rest e p n = let h : None ≡ Some wrong = sym (subst (λ z. fault_at z ≡ None) (sym e) p.no_fault) ∙ f in cc

-- the whole of what is read is cut in one way
one_whole : (bytes left other : List ℕ) (xs ys : List Part) → Whole bytes left xs → Whole bytes other ys → (xs ≡ ys) × (left ≡ other)
one_whole bytes left other xs ys (up_to_the_end ps c e) (up_to_the_end bs d h) =
    let r = one_cut ps bs bytes [] [] c d stuck_at_the_end stuck_at_the_end in
    (r.0, e ∙ sym h)
one_whole bytes left other xs ys (up_to_the_end ps c e) (up_to_end_model bs text rest d h t) =
    let r = one_cut ps bs bytes [] rest c d stuck_at_the_end (stuck_at_end_model rest text other h t) in
    absurd (empty_part (token EndModel text) other (r.1 ∙ h) t)
one_whole bytes left other xs ys (up_to_end_model ps text rest c e s) (up_to_the_end bs d h) =
    let r = one_cut ps bs bytes rest [] c d (stuck_at_end_model rest text left e s) stuck_at_the_end in
    absurd (empty_part (token EndModel text) left (sym r.1 ∙ e) s)
one_whole bytes left other xs ys (up_to_end_model ps text rest c e s) (up_to_end_model bs more after d h t) =
    let r = one_cut ps bs bytes rest after c d (stuck_at_end_model rest text left e s) (stuck_at_end_model after more other h t) in
    let same : Same (token EndModel text) left (token EndModel more) other = one_part (token EndModel text) (token EndModel more) left other (sym e ∙ r.1 ∙ h) s t in
    (ap (λ z. z ++ token EndModel text ∷ []) r.0 ∙ ap (λ z. bs ++ z ∷ []) same.0, same.1)

-- what is read as a whole has no fault
no_stop : (bytes left : List ℕ) (xs : List Part) (place : ℕ) (kind : Kind) → Whole bytes left xs → Stops bytes place kind → ⊥
unfolding fault_at
no_stop bytes left xs place kind (up_to_the_end ps c e) s =
    let r = one_cut ps s.parts bytes [] s.left c s.cuts stuck_at_the_end (stuck_at_fault s.left s.no_gap s.fault) in
    let h : None ≡ Some (kind, s.offset) = subst (λ z. fault_at z ≡ Some (kind, s.offset)) (sym r.1) s.fault in
    cc
no_stop bytes left xs place kind (up_to_end_model ps text rest c e t) s =
    let r = one_cut ps s.parts bytes rest s.left c s.cuts (stuck_at_end_model rest text left e t) (stuck_at_fault s.left s.no_gap s.fault) in
    let h : None ≡ Some (kind, s.offset) = sym (subst (λ z. fault_at z ≡ None) (sym e ∙ r.1) t.no_fault) ∙ s.fault in
    cc

-- a source has one token list
pub one_list : (bytes : List ℕ) (tokens others : List Token) → IsTokenList bytes tokens → IsTokenList bytes others → tokens ≡ others
one_list bytes tokens others s t =
    let r = one_whole bytes s.left t.left s.parts t.parts s.whole t.whole in
    s.are ∙ ap (λ z. tokens_from 0 1 z) r.0 ∙ sym t.are

-- a source has a token list or a fault
pub list_or_fault : (bytes : List ℕ) (tokens : List Token) (place : ℕ) (kind : Kind) → IsTokenList bytes tokens → IsLexicalFault bytes place kind → ⊥
list_or_fault bytes tokens place kind s (no_utf8 reach (read_whole reach' parts left w e) h) =
    let r = one_whole bytes s.left left s.parts parts s.whole w in
    omega (arith, s.utf8, e, h, ap length r.1)
list_or_fault bytes tokens place kind s (no_utf8 reach (read_to_fault at k stop) h) = no_stop bytes s.left s.parts at k s.whole stop
list_or_fault bytes tokens place kind s (no_token at k stop h) = no_stop bytes s.left s.parts at k s.whole stop

pub only_list : {V : Type 0} (items : V → List Token) (bytes : List ℕ) (r : Result V LexFault) → IfOk r (λ v. IsTokenList bytes (items v)) → (tokens : List Token) → IsTokenList bytes tokens → IfOk r (λ v. items v ≡ tokens)
only_list items bytes (Ok v) found tokens h = one_list bytes (items v) tokens found h
only_list items bytes (Err e) found tokens h = tt

no_fault_of : (bytes : List ℕ) (tokens : List Token) → IsTokenList bytes tokens → (fault : LexFault) → IsFaultOf bytes fault → IsNoMemory fault
no_fault_of bytes tokens h (lex_fault.At line column kind) f = list_or_fault bytes tokens f.place kind h f.fault
no_fault_of bytes tokens h lex_fault.NoMemory f = tt

pub taken_list : {V : Type 0} (bytes : List ℕ) (r : Result V LexFault) → IfErr r (IsFaultOf bytes) → (tokens : List Token) → IsTokenList bytes tokens → IfErr r IsNoMemory
taken_list bytes (Ok v) fault tokens h = tt
taken_list bytes (Err e) fault tokens h = no_fault_of bytes tokens h e fault

-- ---- one fault

stop_once : (bytes : List ℕ) (p q : ℕ) (k l : Kind) → Stops bytes p k → Stops bytes q l → (p ≡ q) × (k ≡ l)
stop_once bytes p q k l s t =
    let r = one_cut s.parts t.parts bytes s.left t.left s.cuts t.cuts (stuck_at_fault s.left s.no_gap s.fault) (stuck_at_fault t.left t.no_gap t.fault) in
    let mine : Kind × ℕ = (k, s.offset) in
    let other : Kind × ℕ = (l, t.offset) in
    let f : Some mine ≡ Some other = sym s.fault ∙ subst (λ z. fault_at z ≡ Some other) (sym r.1) t.fault in
    let pair : mine ≡ other = cc in
    let offset : s.offset ≡ t.offset = ap (λ z. z.1) pair in
    (omega (arith, s.there, t.there, ap length r.1, offset), ap (λ z. z.0) pair)

-- no UTF-8 in what is read, and a fault of tokens that comes before it
not_before : (bytes : List ℕ) (reach place : ℕ) (kind : Kind) → IsRead bytes reach → utf8_valid_len bytes < reach → Stops bytes place kind → place < utf8_valid_len bytes → ⊥
not_before bytes reach place kind (read_whole reach' parts left w e) h s less = no_stop bytes left parts place kind w s
not_before bytes reach place kind (read_to_fault at k t) h s less =
    let same = stop_once bytes at place k kind t s in
    omega (arith, same.0, h, less)

pub one_fault : (bytes : List ℕ) (p q : ℕ) (k l : Kind) → IsLexicalFault bytes p k → IsLexicalFault bytes q l → (p ≡ q) × (k ≡ l)
one_fault bytes p q k l (no_utf8 reach r h) (no_utf8 other s g) = (refl, refl)
one_fault bytes p q k l (no_utf8 reach r h) (no_token q' l' s less) = absurd (not_before bytes reach q' l' r h s less)
one_fault bytes p q k l (no_token p' k' s less) (no_utf8 reach r h) = absurd (not_before bytes reach p' k' r h s less)
one_fault bytes p q k l (no_token p' k' s less) (no_token q' l' t more) = stop_once bytes p' q' k' l' s t

fault_given : (bytes : List ℕ) (fault : LexFault) (place : ℕ) (kind : Kind) → IsFaultOf bytes fault → IsLexicalFault bytes place kind → Names fault bytes place kind
fault_given bytes (lex_fault.At line column k) place kind f h =
    let same = one_fault bytes f.place place k kind f.fault h in
    (f.line_is ∙ ap (λ z. line_of bytes z) same.0, f.column_is ∙ ap (λ z. column_of bytes z) same.0, same.1)
fault_given bytes lex_fault.NoMemory place kind f h = tt

pub only_fault : {V : Type 0} (items : V → List Token) (bytes : List ℕ) (r : Result V LexFault) → IfOk r (λ v. IsTokenList bytes (items v)) → IfErr r (IsFaultOf bytes)
    → (place : ℕ) (kind : Kind) → IsLexicalFault bytes place kind → GivesFault r bytes place kind
only_fault items bytes (Ok v) found fault place kind h = list_or_fault bytes (items v) place kind found h
only_fault items bytes (Err e) found fault place kind h = fault_given bytes e place kind fault h

-- ---- as many tokens as bytes at most

has_bytes : (k : TokenKind) (text rest : List ℕ) → IsToken k text rest → 1 ≤ length text
unfolding kind_of
has_bytes k [] rest t = let h : None ≡ Some k = t.form in cc
has_bytes k (x ∷ xs) rest t = omega arith

few_cut : (at line : ℕ) (xs : List Part) (bytes left : List ℕ) → Cuts bytes xs left → length (tokens_from at line xs) + length left ≤ length bytes
few_cut at line [] bytes left c = omega (arith, ap length c)
few_cut at line (gap text ∷ xs) bytes left c = omega (arith, ap length c.1, length-append text c.0, few_cut (at + length text) (line + newlines text) xs c.0 left c.4)
few_cut at line (token k text ∷ xs) bytes left c = omega (arith, ap length c.1, length-append text c.0, has_bytes k text c.0 c.2, few_cut (at + length text) (line + newlines text) xs c.0 left c.4)

-- the parts with one token more
few_with : (at line : ℕ) (xs : List Part) (k : TokenKind) (more : List ℕ) → length (tokens_from at line (xs ++ token k more ∷ [])) ≡ length (tokens_from at line xs) + 1
few_with at line [] k more = refl
few_with at line (gap text ∷ xs) k more = few_with (at + length text) (line + newlines text) xs k more
few_with at line (token j text ∷ xs) k more = omega (arith, few_with (at + length text) (line + newlines text) xs k more)

few_whole : (bytes left : List ℕ) (xs : List Part) → Whole bytes left xs → length (tokens_from 0 1 xs) ≤ length bytes
few_whole bytes left xs (up_to_the_end ps c e) = omega (arith, few_cut 0 1 ps bytes [] c)
few_whole bytes left xs (up_to_end_model ps text rest c e t) =
    omega (arith, few_with 0 1 ps EndModel text, few_cut 0 1 ps bytes rest c, ap length e, length-append text left, has_bytes EndModel text left t)

few_tokens : (bytes : List ℕ) (tokens : List Token) → IsTokenList bytes tokens → length tokens ≤ length bytes
few_tokens bytes tokens h = omega (arith, ap length h.are, few_whole bytes h.left h.parts h.whole)

pub few_found : {V : Type 0} (items : V → List Token) (bytes : List ℕ) (r : Result V LexFault) → IfOk r (λ v. IsTokenList bytes (items v)) → IfOk r (λ v. length (items v) ≤ length bytes)
few_found items bytes (Ok v) found = few_tokens bytes (items v) found
few_found items bytes (Err e) found = tt
