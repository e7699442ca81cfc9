-- Records one after the other, to the end, in every right form: reading them and writing them undo each other, and reading
-- comes to an end.
use mathlib.Core.Path.{◌≡◌, refl, sym, ap, ap₂, subst, ◌∙◌}
use mathlib.Core.Logic.{inl, inr}
use mathlib.Core.Bool.{Bool, true, false, cond}
use mathlib.Core.List.{List, [], ◌∷◌, ◌++◌, append_assoc, append-nil}
use Prim.Native.Nat.{ℕ, zero, suc, ◌+◌, ◌-◌, ◌^◌, ◌≤◌, ◌<◌}
use native.Mathlib.Omega.{arith}
use lib.Dec.{eqb, leb}
use lib.ListN.{length, take, drop, take-append-drop, length-append, length-drop}
use lib.Seq.{drop-drop, take_at, drop_at}
use borrow.Author.Tests.{ne_eqb, eqb-true, eqb-false}
use Rattle.std.specs.Prelude.{Some, None, Result, Ok, Err}
use Rattle.rules.specs.Bytes.{Bytes, overlay}
use Rattle.rules.specs.Events.{kind_of, data_length}
use Rattle.rules.proofs.Parts.{length_overlay}
use Rattle.rules.proofs.BigEndian.{bytes_drop}
use Rattle.rules.specs.declared.Event.{Event}
use Rattle.trace_form.specs.Form.{Right, head_of}
use Rattle.trace_form.specs.declared.Form.{Form}
use Rattle.trace_form.proofs.Heads.{laid}
use Rattle.rules.specs.Refusals.{number_of}
use Rattle.rules.specs.declared.Refusal.{Refusal}
use Rattle.rules.specs.declared.Refusal.TheVariants.{NoEvent, CutShort, NotAcceptable}
use Rattle.trace_read.specs.Reading.{Found, kind_in, has_event, head_whole, event_at, record_at, data_at, record_of, found_of, read_at}
use Rattle.trace_read.specs.declared.Record.{Record}
use Rattle.trace_read.proofs.Places.{read_end}
use Rattle.trace_write.specs.Writing.{Written, done, written, record_bytes, record_refusal, write_record}
use Rattle.trace_write.proofs.Outputs.{overlay_front, length_record}
use Rattle.trace_laws.specs.Traces.{Item, item, Records, also, read_on, read_records, Refusal as Reason, behind, write_records}
use Rattle.trace_laws.specs.Traces.Records.{all, refused}
use Rattle.trace_laws.proofs.Records.{stands, Fits, not_refused, fits_where_not_refused, read_fits, written_back}
use Rattle.trace_laws.proofs.Records.{takes_a_byte, read_back, data_back, rest_back}

-- the bytes of records
unfoldable pub items_bytes : Form → List Item → List ℕ
items_bytes f [] = []
items_bytes f (i ∷ is) = record_bytes f i.event i.new ++ items_bytes f is

pub data AllFit (f : Form) : List Item → Type 0 where
  fit_end : AllFit f []
  fit_more : {i : Item} {is : List Item} → Fits f i.event i.new → AllFit f is → AllFit f (i ∷ is)

-- ENDING: what a step can be refused with
-- a record, or one of the reader's refusals
abbrev Whole : Result Record Refusal → Type 0
Whole (Ok r) = Unit {0}
Whole (Err r) = Reason (number_of r)

-- where bytes are left, it is no end
abbrev Something : Found → Type 0
Something (Ok None) = ⊥
Something (Ok (Some r)) = Unit {0}
Something (Err r) = Reason (number_of r)

whole_or : (b : Bool) (x : Result Record Refusal) → Whole x → Whole (cond b x (Err CutShort))
whole_or true x h = h
whole_or false x h = inr (inl refl)

either : (b : Bool) (x y : Found) → Something x → Something y → Something (cond b x y)
either true x y hx hy = hx
either false x y hx hy = hy

whole_found : (x : Result Record Refusal) → Whole x → Something (found_of x)
whole_found (Ok r) h = tt
whole_found (Err r) h = h

some_data : (n p start : ℕ) (e : Event) → Whole (data_at n p start e)
unfolding data_at
some_data n p start e =
    let len = data_length e in
    whole_or (leb (start + len) n) (Ok (record_at e start len (p + start + len))) tt

some_record : (f : Form) (k : ℕ) (s : List ℕ) (p : ℕ) → Whole (record_of f k s p)
unfolding record_of
some_record f k s p =
    let bytes = (head_of f k).bytes in
    whole_or (head_whole f k s) (data_at (length s) p bytes (event_at f k s))
    (some_data (length s) p bytes (event_at f k s))

something : (f : Form) (s : List ℕ) (p : ℕ) → (length s ≡ 0 → ⊥) → Something (read_at f s p)
unfolding read_at
something f s p ne =
    let k = kind_in f s in
    let found = found_of (record_of f k s p) in
    rw (ne_eqb (length s) 0 ne)
    (either (leb (2 ^ 64) (p + length s)) (Err NotAcceptable) (cond (has_event f k) found (Err NoEvent)) (inr (inr refl))
    (either (has_event f k) found (Err NoEvent) (whole_found (record_of f k s p) (some_record f k s p)) (inl refl)))

refused_number : (f : Form) (s : List ℕ) (p : ℕ) (r : Refusal) → read_at f s p ≡ Err r → Reason (number_of r)
unfolding read_at
refused_number f [] p r e = at_end (leb (2 ^ 64) (p + 0)) e
  where
    at_end : (b : Bool) → cond {A = Found} b (Err NotAcceptable) (Ok None) ≡ Err r → Reason (number_of r)
    at_end true h = let z : NotAcceptable ≡ r = cc in subst (λ (x : Refusal). Reason (number_of x)) z (inr (inr refl))
    at_end false h = absurd (cc)
refused_number f (x ∷ s) p r e = subst Something e (something f (x ∷ s) p (λ z. omega (arith, z)))

pub no_bytes : (f : Form) (s : List ℕ) (p : ℕ) → read_at f s p ≡ Ok None → s ≡ []
no_bytes f [] p e = refl
no_bytes f (x ∷ s) p e = absurd (subst Something e (something f (x ∷ s) p (λ z. omega (arith, z))))

abbrev pub Ended : Records → Type 0
Ended (all is) = Unit {0}
Ended (refused n) = Reason n

ended_also : (i : Item) (r : Records) → Ended r → Ended (also i r)
ended_also i (all is) h = tt
ended_also i (refused n) h = h

module _ (f : Form) (right : Right f) where
  ended_on : (rest : List ℕ → ℕ → Records) (s : List ℕ) (p : ℕ) → ((u : List ℕ) (q : ℕ) → length u < length s → Ended (rest u q))
      → (r : Found) → read_at f s p ≡ r → Ended (read_on rest s p r)
  ended_on rest s p ih (Ok None) e = tt
  ended_on rest s p ih (Err r) e = refused_number f s p r e
  ended_on rest s p ih (Ok (Some r)) e =
      let st = stands r f s p e in
      let u : List ℕ = drop r.len (drop r.start s) in
      let less : length u < length s =
      omega (arith, length-drop r.len (drop r.start s), length-drop r.start s, st.inside, takes_a_byte f right s p r st) in
      ended_also _ (rest u r.next) (ih u r.next less)

  pub records_end : (n : ℕ) (s : List ℕ) (p : ℕ) → length s ≤ n → Ended (read_records f n s p)
  unfolding read_records
  records_end zero s p h = ended_on (λ u q. refused 0) s p (λ u q g. absurd (let z : ⊥ = omega (arith, g) in z)) (read_at f s p) refl
  records_end (suc n) s p h =
      ended_on (read_records f n) s p (λ u q g. records_end n u q (omega arith)) (read_at f s p) refl

-- READING, THEN WRITING: the records read have the bytes that were read, and fit
module _ (f : Form) (right : Right f) where
  pub record Held (s : List ℕ) (is : List Item) : Type 0 where
    pub bytes : items_bytes f is ≡ s
    pub fit : AllFit f is

  also_all : (i : Item) (r : Records) (is : List Item) → also i r ≡ all is
      → (P : List Item → Type 0) → ((js : List Item) → r ≡ all js → P (i ∷ js)) → P is
  also_all i (all js) is e P h = let q : i ∷ js ≡ is = cc in subst P q (h js refl)
  also_all i (refused n) is e P h = absurd (let z : ◌≡◌ {A = ℕ} 0 1 = cc in let q : ⊥ = omega arith in q)

  held_on : (rest : List ℕ → ℕ → Records)
      → ((u : List ℕ) (q : ℕ) (js : List Item) → rest u q ≡ all js → Bytes u → Held u js)
      → (s : List ℕ) (p : ℕ) (r : Found) → read_at f s p ≡ r → (is : List Item) → read_on rest s p r ≡ all is → Bytes s → Held s is
  unfolding items_bytes
  held_on rest ih s p (Ok None) e is h b =
      let none : [] ≡ is = cc in
      subst (Held s) none (record { bytes = sym (no_bytes f s p e); fit = fit_end })
  held_on rest ih s p (Err r) e is h b = absurd (cc)
  held_on rest ih s p (Ok (Some r)) e is h b =
      let st = stands r f s p e in
      let u : List ℕ = drop r.len (drop r.start s) in
      let past : u ≡ drop (r.start + r.len) s = drop-drop r.len r.start s in
      let bu : Bytes u = subst Bytes (sym past) (bytes_drop (r.start + r.len) s b) in
      also_all (item r.event (take r.len (drop r.start s))) (rest u r.next) is h (Held s)
      (λ js g.
      let t = ih u r.next js g bu in
      record {
        bytes =
            ap₂ (λ (x y : List ℕ). x ++ y) (written_back f right s p r st b) (t.bytes ∙ past)
            ∙ take-append-drop (r.start + r.len) s;
        fit = fit_more (read_fits f right s p r st) t.fit;
      })

  pub records_held : (n : ℕ) (s : List ℕ) (p : ℕ) (is : List Item) → read_records f n s p ≡ all is → Bytes s → Held s is
  unfolding read_records
  records_held zero s p is h b =
      held_on (λ u q. refused 0)
      (λ u q js g bu. absurd (let z : ◌≡◌ {A = ℕ} 0 1 = cc in let w : ⊥ = omega arith in w)) s p (read_at f s p) refl is h b
  records_held (suc n) s p is h b = held_on (read_records f n) (records_held n) s p (read_at f s p) refl is h b

  -- READING WHAT WAS WRITTEN
  length_items : (i : Item) (is : List Item) → Fits f i.event i.new
      → length (items_bytes f (i ∷ is)) ≡ (head_of f (kind_of i.event)).bytes + data_length i.event + length (items_bytes f is)
  unfolding items_bytes
  length_items i is fit =
      omega (
        arith,
        length-append (record_bytes f i.event i.new) (items_bytes f is),
        length_record f i.event i.new right,
        fit.data_length_holds,
      )

  pub all_back : (is : List Item) (n p : ℕ) → AllFit f is → length (items_bytes f is) ≤ n → p + length (items_bytes f is) < 2 ^ 64
      → read_records f n (items_bytes f is) p ≡ all is
  unfolding items_bytes read_records
  all_back [] zero p w h near = ap (read_on (λ u q. refused 0) [] p) (sym (read_end f [] p near refl))
  all_back [] (suc n) p w h near = ap (read_on (read_records f n) [] p) (sym (read_end f [] p near refl))
  all_back (i ∷ is) zero p (fit_more fit w) h near =
      absurd (let z : ⊥ = omega (arith, length_items i is fit, (laid f (kind_of i.event) right).some) in z)
  all_back (i ∷ is) (suc n) p (fit_more fit w) h near =
      let e : Event = i.event in
      let bytes = (head_of f (kind_of e)).bytes in
      let tail : List ℕ = items_bytes f is in
      let s : List ℕ = record_bytes f e i.new ++ tail in
      let q : ℕ = p + bytes + data_length e in
      let long = length_items i is fit in
      let some = (laid f (kind_of e) right).some in
      ap (read_on (read_records f n) s p) (read_back f right e i.new tail p fit near)
      ∙ ap₂ (λ (x y : List ℕ). also (item e x) (read_records f n y q)) (data_back f right e i.new tail p fit)
      (rest_back f right e i.new tail p fit)
      ∙ ap (also i) (all_back is n q w (omega (arith, long, some)) (omega (arith, long)))

-- WRITING: each record behind the bytes that were written
abbrev pub front : List ℕ → List ℕ → Written
front out bytes = done bytes out

-- what stands behind the front is the rest of the output
front_split : (out bytes : List ℕ) → length bytes ≤ length out
    → (take (length bytes) (overlay 0 bytes out) ≡ bytes) × (drop (length bytes) (overlay 0 bytes out) ≡ drop (length bytes) out)
front_split out bytes h =
    let is : overlay 0 bytes out ≡ bytes ++ drop (length bytes) out = overlay_front bytes out h in (
      ap (take (length bytes)) is ∙ take_at bytes (drop (length bytes) out) (length bytes) refl,
      ap (drop (length bytes)) is ∙ drop_at bytes (drop (length bytes) out) (length bytes) refl,
    )

-- the output behind the bytes that were written
abbrev unwritten : List ℕ → List ℕ → List ℕ
unwritten out bytes = drop (length bytes) (overlay 0 bytes out)

front_more : (out bytes more : List ℕ) → length bytes + length more ≤ length out
    → behind (front out bytes) (front (unwritten out bytes) more) ≡ front out (bytes ++ more)
front_more out bytes more h =
    let parts = front_split out bytes (omega arith) in
    let rest : List ℕ = drop (length bytes) out in
    let room : length more ≤ length rest = omega (arith, length-drop (length bytes) out) in
    let len : length (bytes ++ more) ≡ length bytes + length more = length-append bytes more in
    let same : take (length bytes) (overlay 0 bytes out) ++ overlay 0 more (unwritten out bytes) ≡ overlay 0 (bytes ++ more) out =
    ap₂ (λ (x y : List ℕ). x ++ overlay 0 more y) parts.0 parts.1
    ∙ ap (λ (x : List ℕ). bytes ++ x) (overlay_front more rest room)
    ∙ sym (append_assoc bytes more (drop (length more) rest))
    ∙ ap (λ (x : List ℕ). (bytes ++ more) ++ x) (drop-drop (length more) (length bytes) out ∙ ap (λ (x : ℕ). drop x out) (sym len))
    ∙ sym (overlay_front (bytes ++ more) out (omega (arith, len))) in
    λ i. record { number = 0; count = sym len i; out = same i }

module _ (f : Form) (right : Right f) where
  record_front : (e : Event) (new out : List ℕ) → record_refusal f e new (length out) ≡ 0
      → write_record f e new out ≡ front out (record_bytes f e new)
  unfolding write_record written
  record_front e new out z = rw z

  room_behind : (out bytes : List ℕ) → length bytes ≤ length out
      → length (unwritten out bytes) ≡ length out - length bytes
  room_behind out bytes h = length-drop (length bytes) (overlay 0 bytes out) ∙ ap (λ (x : ℕ). x - length bytes) (length_overlay 0 bytes out)

  record_more : (i : Item) (out bytes : List ℕ) → length bytes ≤ length out → let rest = unwritten out bytes in
      record_refusal f i.event i.new (length rest) ≡ 0
      → behind (front out bytes) (write_record f i.event i.new rest) ≡ front out (bytes ++ record_bytes f i.event i.new)
  record_more i out bytes h z =
      let rest : List ℕ = unwritten out bytes in
      let fit = fits_where_not_refused f right i.event i.new (length rest) z in
      ap (behind (front out bytes)) (record_front i.event i.new rest z)
      ∙ front_more out bytes (record_bytes f i.event i.new)
      (omega (arith, fit.1, room_behind out bytes h, length_record f i.event i.new right))

  pub write_all : (is : List Item) (out bytes : List ℕ) → AllFit f is → length bytes + length (items_bytes f is) ≤ length out
      → write_records f is (front out bytes) ≡ front out (bytes ++ items_bytes f is)
  unfolding items_bytes write_records
  write_all [] out bytes w h = ap (front out) (sym (append-nil bytes))
  write_all (i ∷ is) out bytes (fit_more fit w) h =
      let rest : List ℕ = unwritten out bytes in
      let rb : List ℕ = record_bytes f i.event i.new in
      let len : length (rb ++ items_bytes f is) ≡ length rb + length (items_bytes f is) = length-append rb (items_bytes f is) in
      let within : length bytes ≤ length out = omega arith in
      let z : record_refusal f i.event i.new (length rest) ≡ 0 =
      not_refused f right i.event i.new (length rest) fit
      (omega (arith, len, room_behind out bytes within, length_record f i.event i.new right)) in
      ap (write_records f is) (record_more i out bytes within z)
      ∙ write_all is out (bytes ++ rb) w (omega (arith, len, length-append bytes rb))
      ∙ ap (front out) (append_assoc bytes rb (items_bytes f is))

  -- and where it succeeds, each record fits and there was room
  pub stays : (is : List Item) (w : Written) → (w.number ≡ 0 → ⊥) → write_records f is w ≡ w
  unfolding write_records
  stays [] w ne = refl
  stays (i ∷ is) w ne = rw (ne_eqb w.number 0 ne)

  refused_record : (e : Event) (new out : List ℕ) → (record_refusal f e new (length out) ≡ 0 → ⊥)
      → (write_record f e new out).number ≡ record_refusal f e new (length out)
  unfolding write_record written
  refused_record e new out ne = rw (ne_eqb (record_refusal f e new (length out)) 0 ne)

  abbrev Room : List Item → List ℕ → List ℕ → Type 0
  Room is out bytes = AllFit f is × (length bytes + length (items_bytes f is) ≤ length out)

  one_more : (i : Item) (is : List Item) (out bytes : List ℕ) → length bytes ≤ length out
      → ((more : List ℕ) → length more ≤ length out → (write_records f is (front out more)).number ≡ 0 → Room is out more)
      → (write_records f is (behind (front out bytes) (write_record f i.event i.new (unwritten out bytes)))).number ≡ 0
      → Room (i ∷ is) out bytes
  unfolding items_bytes
  one_more i is out bytes h rest-fits z = go (eqb (record_refusal f i.event i.new (length rest)) 0) refl
    where
      rest : List ℕ
      rest = unwritten out bytes

      rb : List ℕ
      rb = record_bytes f i.event i.new

      go : (b : Bool) → eqb (record_refusal f i.event i.new (length rest)) 0 ≡ b → Room (i ∷ is) out bytes
      go true t =
          let none = eqb-true (record_refusal f i.event i.new (length rest)) 0 t in
          let fit = fits_where_not_refused f right i.event i.new (length rest) none in
          let len = length_record f i.event i.new right in
          let more : length bytes + length rb ≤ length out = omega (arith, fit.1, room_behind out bytes h, len) in
          let r = rest-fits (bytes ++ rb) (omega (arith, length-append bytes rb))
          (sym (ap (λ (x : Written). (write_records f is x).number) (record_more i out bytes h none)) ∙ z) in
          (fit_more fit.0 r.0, omega (arith, r.1, length-append bytes rb, length-append rb (items_bytes f is)))
      go false t =
          let ne = eqb-false (record_refusal f i.event i.new (length rest)) 0 t in
          let w : Written = behind (front out bytes) (write_record f i.event i.new rest) in
          let n : w.number ≡ record_refusal f i.event i.new (length rest) = refused_record i.event i.new rest ne in
          absurd (ne (sym n ∙ sym (ap (λ (x : Written). x.number) (stays is w (λ y. ne (sym n ∙ y)))) ∙ z))

  pub all_fit : (is : List Item) (out bytes : List ℕ) → length bytes ≤ length out → (write_records f is (front out bytes)).number ≡ 0
      → AllFit f is × (length bytes + length (items_bytes f is) ≤ length out)
  unfolding items_bytes write_records
  all_fit [] out bytes h z = (fit_end, omega arith)
  all_fit (i ∷ is) out bytes h z = one_more i is out bytes h (all_fit is out) z
