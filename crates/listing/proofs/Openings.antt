-- The header's checks, each by the test that the code makes; and what a start leaves.
use Rattle.std.proofs.Common.{Ok, Err, ◌≡◌, ℕ, ◌*◌, ◌<◌, ◌≤◌, Bool, true, false, cond, T, ltb, List, [], length, sym, refl, ap, ◌∙◌, subst}
use Rattle.std.proofs.Common.{mul-le-mul, zero-add, arith, leb→le, le-ltb, lt-ltb}
use Rattle.rules.proofs.Facts.{each, passed, limited}
use Rattle.rules.specs.Sizes.{setup_in_range, max_size, max_domains, max_pages, max_contexts, max_frames}
use Rattle.rules.specs.declared.Setup.{Setup}
use Rattle.rules.specs.declared.Refusal.{Refusal}
use Rattle.rules.specs.declared.Refusal.TheVariants.{CutShort, NotAcceptable}
use Rattle.rules.specs.Asked.{Limited}
use Rattle.trace_form.specs.Header.{setup_in, header_values}
use Rattle.trace_form.proofs.Headers.{read_in_range}
use Rattle.trace_read.specs.Reading.{Header, opened_at, records_from, sizes_of, sizes_whole, sizes_at, header_at}
use Rattle.trace_read.specs.declared.Opened.{Opened}
use Rattle.trace_read.proofs.Headers.{opened}
use Rattle.core_answer.specs.Handed.{Left}
use Rattle.core_entry.specs.Started.{started}
use Rattle.listing_line.specs.Lines.{refused_line, Put}
use Rattle.listing.specs.Listing.{Point, point, run_at, supply_of, start_point}
use Rattle.listing.specs.declared.Run.{Run}
use Rattle.listing.specs.Filling.{numbers_room, wrote, refusal_wrote}
use Rattle.listing.specs.Opening.{limit, saved_length, frames_length, store_length, products_fit, opening_of, opening_at}

-- the products of a setup within its limits can be counted
module _ (s : Setup) (r : Limited s) where
  pub saved_counted : saved_length s ≤ 8 * max_contexts
  saved_counted = omega arith

  pub frames_counted : frames_length s ≤ max_frames * max_size
  frames_counted = mul-le-mul r.frames r.size

  pub pages_counted : s.domains * s.pages ≤ max_domains * max_pages
  pages_counted = mul-le-mul r.domains r.pages

  pub store_counted : store_length s ≤ max_domains * max_pages * max_size
  store_counted = mul-le-mul pages_counted r.size

module _ (trace : List ℕ) where
  pub too_long : limit < length trace → Err NotAcceptable ≡ opening_at trace
  unfolding opening_at
  too_long h = rw (lt-ltb limit (length trace) h)

  module _ (h : length trace ≤ limit) {r : Header} (sizes : r ≡ sizes_at trace) where
    by_sizes : {x : Header} → r ≡ x → opening_of trace x ≡ opening_at trace
    unfolding opening_at
    by_sizes {x} e = rw (le-ltb limit (length trace) h) (ap (opening_of trace) (sym e ∙ sizes))

    module _ {o : Opened} (e : r ≡ Ok o) where
      pub setup_read : Limited o.setup
      unfolding sizes_at header_values
      setup_read = limited o.setup (go (sizes_whole trace) (sym sizes ∙ e))
        where
          go : (b : Bool) → cond b (sizes_of (setup_in (header_values trace))) (Err CutShort) ≡ Ok o → T (setup_in_range o.setup)
          go true q =
              let same : opened_at (setup_in (header_values trace)) (records_from (setup_in (header_values trace))) ≡ o = cc q in
              subst (λ (x : Opened). T (setup_in_range x.setup)) same (read_in_range _)
          go false q = absurd (cc)

      pub products_fit_holds : {b : Bool} → b ≡ products_fit o.setup → b ≡ true → header_at trace ≡ opening_at trace
      unfolding opening_of
      products_fit_holds p b = rw (sym p ∙ b) at (by_sizes e)

      pub products_not : {b : Bool} → b ≡ products_fit o.setup → b ≡ false → Err NotAcceptable ≡ opening_at trace
      unfolding opening_of
      products_not p b = rw (sym p ∙ b) at (by_sizes e)

    pub sizes_refused : {n : Refusal} → r ≡ Err n → Err n ≡ opening_at trace
    unfolding opening_of
    sizes_refused e = by_sizes e

-- what is known of a setup that trace-run takes
module _ (trace : List ℕ) (o : Opened) (e : opening_at trace ≡ Ok o) where
  abbrev s : Setup
  s = o.setup

  taken : (b : Bool) (h : Header) → cond b h (Err NotAcceptable) ≡ Ok o → (b ≡ true) × (h ≡ Ok o)
  taken true h q = (refl, q)
  taken false h q = absurd (cc)

  abbrev read : Setup
  read = setup_in (header_values trace)

  both : (products_fit read ≡ true) × (header_at trace ≡ Ok o)
  unfolding opening_at opening_of sizes_at
  both = go (ltb limit (length trace)) (sizes_whole trace) e
    where
      go : (a b : Bool) → cond a (Err NotAcceptable) (opening_of trace (cond b (sizes_of read) (Err CutShort))) ≡ Ok o
          → (products_fit read ≡ true) × (header_at trace ≡ Ok o)
      go true b q = absurd (cc)
      go false true q = taken (products_fit read) (header_at trace) q
      go false false q = absurd (cc)

  is_read : s ≡ read
  is_read = (opened o trace both.1).setup

  fitting : T (products_fit s)
  fitting = passed (products_fit s) (rw is_read both.0)

  pub taken_in_range : Limited s
  unfolding header_values
  taken_in_range = limited s (rw is_read (read_in_range _))

  pub taken_saved : saved_length s ≤ 8 * max_contexts
  taken_saved = saved_counted s taken_in_range

  pub taken_pages : s.domains * s.pages ≤ max_domains * max_pages
  taken_pages = pages_counted s taken_in_range

  pub taken_frames : frames_length s ≤ limit
  unfolding products_fit
  taken_frames = leb→le (frames_length s) limit (each _ fitting).0

  pub taken_store : store_length s ≤ limit
  unfolding products_fit
  taken_store = leb→le (store_length s) limit (each _ fitting).1.0

-- the start, where the core leaves l
module _ (trace : List ℕ) (setup : Setup) (place : ℕ) (tables saved frames store : List ℕ) where
  pub opens : {supply : List ℕ} {l : Left} → supply ≡ supply_of trace → l ≡ started setup tables saved frames store supply
      → point trace (run_at setup place 0) l.tables l.saved l.frames l.store []
      ≡ start_point trace setup place tables saved frames store []
  unfolding start_point
  opens s e = rw (e, s)

  pub start_counted : {r : Run} {x y f t : List ℕ}
      → point trace r x y f t [] ≡ start_point trace setup place tables saved frames store [] → r.index ≤ r.place
  unfolding start_point
  start_counted {r} e = let none : r.index ≡ 0 = ap (λ (p : Point). p.run.index) e in omega arith

-- a refused header's line
module _ (number : ℕ) (out : List ℕ) where
  pub no_room : length out < numbers_room → wrote [] out ≡ refusal_wrote number out
  unfolding refusal_wrote
  no_room h = rw (lt-ltb (length out) numbers_room h)

  pub room_for_it : {r : ℕ} {after : List ℕ} → numbers_room ≤ length out → Put 0 (refused_line 0 number 0) out r after
      → record { count = r; out = after } ≡ refusal_wrote number out
  unfolding refusal_wrote
  room_for_it {r} {after} h p =
      let counted : r ≡ length (refused_line 0 number 0) = p.ends ∙ zero-add _ in
      rw (le-ltb (length out) numbers_room h, counted, p.bytes)
