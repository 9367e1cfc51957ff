-- What is read is spelled so, what is spelled so is read, and no spelling begins another one.
use Rattle.std.proofs.Common.{◌≡◌, ◌++◌, ◌∷◌, ◌||◌, ◌+◌, ◌^◌, ◌<◌, ◌≤◌, ℕ, Bool, true, false, cond, ltb, eqb, List, [], length, drop, Result, Ok, Err, refl, sym, ap, subst, ◌∙◌, append_assoc, arith, inl, inr}
use Rattle.std.proofs.lemmas.Bool.{eqb-true, ltb-false, le-ltb}
use Rattle.std.proofs.lemmas.List.{append-nil, nil_from_length, drop_at, take-append-drop, length-append, length-drop}
use Rattle.std.specs.Prelude.{IfOk}
use Rattle.fal_base.specs.Unless.{UnlessMemory}
use Rattle.byteorder.specs.Endian.{big_number, big_bytes}
use Rattle.byteorder.specs.Numbers.{big_from-lt, big_number-reads_back, length-bytes_high_first}
use Rattle.fal_wire.specs.declared.fault.WireFault.{WireFault}
use Rattle.fal_wire.specs.declared.fault.WireFault.TheVariants as fault
use Rattle.fal_wire.specs.declared.message.Message.{Message}
use Rattle.fal_wire.specs.declared.message.Message.TheVariants as message
use Rattle.fal_wire.specs.Format.{◌>>=◌, place, content_spelling, chosen_at, number_spelling, IsBytes}
use Rattle.fal_wire.specs.Messages.{message_layout, message_branches, body_spelling, kind_of, spelling, FieldsFit, Fits, body_at, whole, framed, is_kind, reading}
use Rattle.fal_wire.proofs.Laws.{bind_ok, ok_is, IsBytes-rest}
use Rattle.fal_wire.proofs.NumberLaws.{IsBytes-drop, read_bytes}
use Rattle.fal_wire.proofs.ListLaws.{chosen_takes}
use Rattle.fal_wire.proofs.MessageLaws.{message_again, message_forms}

then_ok : {A : Type 0} (b : Bool) (r : Result A WireFault) (d : WireFault) (y : A) → cond b r (Err d) ≡ Ok y → (b ≡ true) × (r ≡ Ok y)
then_ok true r d y e = (refl, e)
then_ok false r d y e = absurd cc

else_ok : {A : Type 0} (b : Bool) (r : Result A WireFault) (d : WireFault) (y : A) → cond b (Err d) r ≡ Ok y → (b ≡ false) × (r ≡ Ok y)
else_ok true r d y e = absurd cc
else_ok false r d y e = (refl, e)

none_ok : {A : Type 0} (b : Bool) (c d : WireFault) (y : A) → cond b (Err c) (Err d) ≡ Ok y → ⊥
none_ok true c d y e = cc
none_ok false c d y e = cc

neither : (a b : Bool) → (a || b) ≡ false → (a ≡ false) × (b ≡ false)
neither true b e = absurd cc
neither false b e = (refl, e)

framed_by : {A : Type 0} (a b c : Bool) (d f : WireFault) (r y : Result A WireFault) → a ≡ false → b ≡ false → c ≡ false → r ≡ y → cond (a || b) (Err d) (cond c (Err f) r) ≡ y
framed_by a b c d f r y is_a is_b is_c e = rw (is_a, is_b, is_c) e

reading_by : {A : Type 0} (b : Bool) (d : WireFault) (r y : Result A WireFault) → b ≡ true → r ≡ y → cond b r (Err d) ≡ y
reading_by b d r y is_b e = rw is_b e

-- what stands behind the version is the length of the body, and the body
framed_spells : (kind : ℕ) (bytes : List ℕ) (m : Message) → IsBytes bytes → framed kind bytes ≡ Ok m → (kind ≡ kind_of m) × (bytes ≡ big_bytes 4 (length (body_spelling m)) ++ body_spelling m) × Fits m
unfolding body_at kind_of body_spelling FieldsFit
framed_spells kind bytes m fits e =
    let a = else_ok (ltb (length bytes) 4 || ltb (length bytes) (4 + big_number 4 bytes)) (cond (ltb (4 + big_number 4 bytes) (length bytes)) (Err (fault.Trailing (6 + big_number 4 bytes))) (body_at kind (2 + length bytes) (drop 4 bytes) >>= whole (2 + length bytes))) (fault.Short (2 + length bytes)) m e in
    let b = else_ok (ltb (4 + big_number 4 bytes) (length bytes)) (body_at kind (2 + length bytes) (drop 4 bytes) >>= whole (2 + length bytes)) (fault.Trailing (6 + big_number 4 bytes)) m a.1 in
    let tests = neither (ltb (length bytes) 4) (ltb (length bytes) (4 + big_number 4 bytes)) a.0 in
    let four : 4 ≤ length bytes = ltb-false _ _ tests.0 in
    let enough : 4 + big_number 4 bytes ≤ length bytes = ltb-false _ _ tests.1 in
    let few : length bytes ≤ 4 + big_number 4 bytes = ltb-false _ _ b.0 in
    let x = bind_ok (body_at kind (2 + length bytes) (drop 4 bytes)) (whole (2 + length bytes)) m b.1 in
    let ended = then_ok (eqb (length x.0.1) 0) (Ok x.0.0) (fault.Length (place (2 + length bytes) x.0.1)) m x.2 in
    let t = chosen_takes Message message_layout message_branches message_forms (fault.Kind 0) kind (2 + length bytes) (drop 4 bytes) x.0 (IsBytes-drop 4 bytes fits) x.1 in
    let none : x.0.1 ≡ [] = nil_from_length x.0.1 (eqb-true _ _ ended.0) in
    let body : drop 4 bytes ≡ content_spelling (message_layout x.0.0) = t.0.parts ∙ ap (λ (r : List ℕ). content_spelling (message_layout x.0.0) ++ r) none ∙ append-nil (content_spelling (message_layout x.0.0)) in
    let long : length (content_spelling (message_layout x.0.0)) ≡ big_number 4 bytes = ap length (sym body) ∙ omega (arith, length-drop 4 bytes) in
    let small : big_number 4 bytes < 256 ^ 4 = big_from-lt 0 4 bytes fits in
    let spelled : bytes ≡ big_bytes 4 (length (content_spelling (message_layout x.0.0))) ++ content_spelling (message_layout x.0.0) =
    sym (take-append-drop 4 bytes)
    ∙ ap (λ (front : List ℕ). front ++ drop 4 bytes) (sym (read_bytes 4 bytes fits four))
    ∙ ap (λ (r : List ℕ). big_bytes 4 (big_number 4 bytes) ++ r) body
    ∙ ap (λ (k : ℕ). big_bytes 4 k ++ content_spelling (message_layout x.0.0)) (sym long) in
    let same : x.0.0 ≡ m = ok_is x.0.0 m ended.1 in
    subst (λ (n : Message). (kind ≡ (message_layout n).tag) × (bytes ≡ big_bytes 4 (length (content_spelling (message_layout n))) ++ content_spelling (message_layout n)) × Fits n) same
    (sym t.2, spelled, record { fields = t.1; short = omega (arith, long, small) })

pub reading_spells : (bytes : List ℕ) (m : Message) → IsBytes bytes → reading bytes ≡ Ok m → (bytes ≡ spelling m) × Fits m
unfolding reading number_spelling
reading_spells [] m fits e = absurd cc
reading_spells (kind ∷ []) m fits e = absurd (none_ok (is_kind kind) (fault.Short 1) (fault.Kind 0) m e)
reading_spells (kind ∷ version ∷ bytes) m fits e =
    let a = then_ok (is_kind kind) (cond (eqb version 1) (framed kind bytes) (Err (fault.Value 1))) (fault.Kind 0) m e in
    let b = then_ok (eqb version 1) (framed kind bytes) (fault.Value 1) m a.1 in
    let one : version ≡ 1 = eqb-true _ _ b.0 in
    let t = framed_spells kind bytes m (IsBytes-rest version bytes (IsBytes-rest kind (version ∷ bytes) fits)) b.1 in
    (ap (λ (k : ℕ). k ∷ version ∷ bytes) t.0 ∙ ap (λ (v : ℕ). kind_of m ∷ v ∷ bytes) one ∙ ap (λ (bs : List ℕ). kind_of m ∷ 1 ∷ bs) t.1, t.2)

kind_known : (m : Message) → is_kind (kind_of m) ≡ true
unfolding kind_of
kind_known (message.Call call) = refl
kind_known (message.Reply id reply) = refl
kind_known (message.Stale id old new changes) = refl
kind_known (message.Opened id dir) = refl
kind_known (message.ListAsk id version dir) = refl
kind_known (message.ListPart id node names) = refl
kind_known (message.FetchAsk asker number key) = refl
kind_known (message.FetchGot number key found) = refl
kind_known (message.Lock op keys) = refl
kind_known (message.Locked op node rows) = refl
kind_known (message.Count op dir) = refl
kind_known (message.Counted op node number) = refl
kind_known (message.Commit op updates) = refl
kind_known (message.Done op node) = refl
kind_known (message.Block op name) = refl
kind_known (message.Blocked op node rows) = refl
kind_known (message.Install op version rule rows) = refl
kind_known (message.Installed op node) = refl

framed_again : (kind : ℕ) (m : Message) → kind ≡ kind_of m → Fits m → framed kind (big_bytes 4 (length (body_spelling m)) ++ body_spelling m) ≡ Ok m
unfolding body_at kind_of body_spelling FieldsFit
framed_again kind m is fits =
    let body : List ℕ = content_spelling (message_layout m) in
    let bytes : List ℕ = big_bytes 4 (length body) ++ body in
    let four = length-bytes_high_first 4 (length body) in
    let long : length bytes ≡ 4 + length body = omega (arith, length-append (big_bytes 4 (length body)) body, four) in
    let number : big_number 4 bytes ≡ length body = big_number-reads_back 4 (length body) body fits.short in
    let a : ltb (length bytes) 4 ≡ false = le-ltb _ _ (omega arith) in
    let b : ltb (length bytes) (4 + big_number 4 bytes) ≡ false = le-ltb _ _ (omega (arith, number, long)) in
    let c : ltb (4 + big_number 4 bytes) (length bytes) ≡ false = le-ltb _ _ (omega (arith, number, long)) in
    let rest : drop 4 bytes ≡ body = drop_at (big_bytes 4 (length body)) body 4 four in
    let read : chosen_at message_branches (fault.Kind 0) kind (2 + length bytes) (drop 4 bytes) ≡ Ok (m, []) =
    ap (λ (k : ℕ). chosen_at message_branches (fault.Kind 0) k (2 + length bytes) (drop 4 bytes)) is
    ∙ ap (chosen_at message_branches (fault.Kind 0) (message_layout m).tag (2 + length bytes)) (rest ∙ sym (append-nil body))
    ∙ message_again (2 + length bytes) (fault.Kind 0) m [] fits.fields in
    framed_by (ltb (length bytes) 4) (ltb (length bytes) (4 + big_number 4 bytes)) (ltb (4 + big_number 4 bytes) (length bytes)) (fault.Short (2 + length bytes)) (fault.Trailing (6 + big_number 4 bytes)) (chosen_at message_branches (fault.Kind 0) kind (2 + length bytes) (drop 4 bytes) >>= whole (2 + length bytes)) (Ok m) a b c (ap (λ (r : Result (Message × List ℕ) WireFault). r >>= whole (2 + length bytes)) read)

pub spelled_reads : (m : Message) → Fits m → reading (spelling m) ≡ Ok m
unfolding reading number_spelling
spelled_reads m fits = reading_by (is_kind (kind_of m)) (fault.Kind 0) (framed (kind_of m) (big_bytes 4 (length (body_spelling m)) ++ body_spelling m)) (Ok m) (kind_known m) (framed_again (kind_of m) m refl fits)

-- the length of a record stands in its first six bytes
pub no_prefix : (m n : Message) (rest : List ℕ) → Fits m → Fits n → spelling m ++ rest ≡ spelling n → rest ≡ []
unfolding number_spelling
no_prefix m n rest fits_m fits_n same =
    let a : List ℕ = body_spelling m in
    let b : List ℕ = body_spelling n in
    let regroup : spelling m ++ rest ≡ kind_of m ∷ 1 ∷ (big_bytes 4 (length a) ++ (a ++ rest)) = ap (λ (bs : List ℕ). kind_of m ∷ 1 ∷ bs) (append_assoc (big_bytes 4 (length a)) a rest) in
    let tails : big_bytes 4 (length a) ++ (a ++ rest) ≡ big_bytes 4 (length b) ++ b = ap (drop 2) (sym regroup ∙ same) in
    let lengths : length a ≡ length b = sym (big_number-reads_back 4 (length a) (a ++ rest) fits_m.short) ∙ ap (big_number 4) tails ∙ big_number-reads_back 4 (length b) b fits_n.short in
    let whole_length : length (big_bytes 4 (length a)) + (length a + length rest) ≡ length (big_bytes 4 (length b)) + length b =
    omega (arith, ap length tails, length-append (big_bytes 4 (length a)) (a ++ rest), length-append a rest, length-append (big_bytes 4 (length b)) b) in
    nil_from_length rest (omega (arith, whole_length, lengths, length-bytes_high_first 4 (length a), length-bytes_high_first 4 (length b)))

abbrev answered : Message → Result Message WireFault
answered m = Ok m

not_ok : (m : Message) → answered m ≡ Err fault.OutOfMemory → ⊥
not_ok m e = cc

-- what a call answered that gives what reading gives
pub is_spelled : (bytes : List ℕ) (r : Result Message WireFault) → IsBytes bytes → UnlessMemory fault.OutOfMemory r (reading bytes) → IfOk r (λ m. (bytes ≡ spelling m) × Fits m)
is_spelled bytes (Ok m) fits given = elim given [ inl same ↦ reading_spells bytes m fits (sym same) | inr other ↦ absurd (not_ok m other) ]
is_spelled bytes (Err e) fits given = tt
