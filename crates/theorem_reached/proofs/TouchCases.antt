-- The three cases of a page that is touched at the frame to which it is mapped, once the frames in its way are sealed: it is Public and the
-- frame names none, or it is Clear in that frame, or it is Sealed and the frame names none.
use Rattle.std.specs.Prelude.{None}
use mathlib.Core.Path.{◌≡◌, refl, ap, ◌∙◌}
use mathlib.Core.List.{[], ◌∷◌}
use mathlib.Core.Bool.{Bool, true, false, cond}
use Prim.Native.Nat.{ℕ, ◌<◌}
use lib.Dec.{T, eqb, eqb_refl}
use borrow.Author.Tests.{eqb-true}
use Rattle.rules.specs.Records.{Given, Machine, place_of, names_of, is_clear_in}
use Rattle.rules.specs.Sealing.{sealed_with, seal_at, seal_named, seal, seal_all, sealed_first}
use Rattle.rules.specs.declared.Setup.{Setup}
use Rattle.rules.specs.declared.Tables.{Tables}
use Rattle.rules.specs.declared.Asid.{Asid}
use Rattle.rules.specs.declared.Gvpn.{Gvpn}
use Rattle.rules.specs.declared.Gppn.{Gppn}
use Rattle.rules.specs.declared.Wear.{Wear}
use Rattle.rules.specs.declared.Place.{Place}
use Rattle.rules.specs.declared.Place.TheVariants.{Public, Clear, Sealed}
use Rattle.rules.proofs.PageNumbers.{number_one, same_frame}
use Rattle.rules.proofs.Facts.{Accepted}
use Rattle.theorem_reached.proofs.SealFrames.{Enough, Fits, Room, room_held, room_first, room_rest, first_accepted, seal_either}
use Rattle.theorem_reached.proofs.SealFrames.{seal_names}
use Rattle.theorem_reached.proofs.FramesAndSlots.{Within}
use Rattle.theorem_reached.proofs.SealPage.{Holds, sealed_place, others_place}

-- what sealing a frame does to the place of any one page
module _ (g : Given) (f : Gppn) (m : Machine) (accepted : Accepted g m) (hf : f.0 < g.setup.frames) (room : Room g f m) (d : Asid)
    (v : Gvpn)
    (hd : Within g.setup d v) where
  abbrev s : Setup
  s = g.setup

  pub seal_place_kept : (T (is_clear_in f (place_of s m.tables d v)) → ⊥) → place_of s (seal g f m).tables d v ≡ place_of s m.tables d v
  seal_place_kept elsewhere =
      seal_either g f m accepted hf (λ n. place_of s n.tables d v ≡ place_of s m.tables d v) (λ _. refl)
      (λ e x w held.
      others_place g f e x w m accepted held (room_held g f m e x w room held) d v
      (λ p.
      let k = number_one s d e v x hd.page held.within.page p in
      elsewhere (rw (k.0, k.1, held.place) (eqb_refl f.0))))

  pub seal_place_own : (w : Wear) → place_of s m.tables d v ≡ Clear f w
      → place_of s (seal g f m).tables d v ≡ Sealed (sealed_with m.tables.used w)
  unfolding seal seal_named seal_at
  seal_place_own w place =
      let n = accepted.looks.agrees.named d v f w hd.domain hd.page place in
      let held : Holds s m.tables f d v w = record { frame = hf; within = hd; names = n.1; place = place } in
      rw (n.1, place) (sealed_place g f d v w m accepted held (room_held g f m d v w room held))

-- how a page and the frame to which it is mapped stand when it is touched
pub data TouchCase (s : Setup) (t : Tables) (f : Gppn) (d : Asid) (v : Gvpn) : Type 0 where
  public : place_of s t d v ≡ Public → names_of t f ≡ None → TouchCase s t f d v
  there : (w : Wear) → Holds s t f d v w → TouchCase s t f d v
  away : (k : ℕ) → place_of s t d v ≡ Sealed k → names_of t f ≡ None → TouchCase s t f d v

module _ (g : Given) (m : Machine) (accepted : Accepted g m) (f : Gppn) (hf : f.0 < g.setup.frames) (d : Asid) (v : Gvpn)
    (hd : Within g.setup d v) where
  first_fits_at : (p : Place) → place_of g.setup m.tables d v ≡ p → Fits g.setup (sealed_first f p)
  unfolding sealed_first
  first_fits_at Public e = (hf, tt)
  first_fits_at (Clear h w) e = pick (eqb h.0 f.0)
    where
      pick : (b : Bool) → Fits g.setup (cond b [] (h ∷ f ∷ []))
      pick true = tt
      pick false = ((accepted.looks.agrees.named d v h w hd.domain hd.page e).0, (hf, tt))
  first_fits_at (Sealed k) e = (hf, tt)

  pub first_fits : Fits g.setup (sealed_first f (place_of g.setup m.tables d v))
  first_fits = first_fits_at (place_of g.setup m.tables d v) refl

  ready_at : (p : Place) → place_of g.setup m.tables d v ≡ p → Enough g (sealed_first f p) m
      → TouchCase g.setup (seal_all g (sealed_first f p) m).tables f d v
  unfolding sealed_first seal_all
  ready_at Public e enough =
      let room = room_first g f [] m enough in
      public (seal_place_kept g f m accepted hf room d v hd (λ c. rw e at c) ∙ e) (seal_names g f m accepted hf room)
  ready_at (Clear h w) e enough = pick (eqb h.0 f.0) refl enough
    where
      pick : (b : Bool) → eqb h.0 f.0 ≡ b → Enough g (cond b [] (h ∷ f ∷ [])) m
          → TouchCase g.setup (seal_all g (cond b [] (h ∷ f ∷ [])) m).tables f d v
      pick true q enough =
          let r : h ≡ f = same_frame h f (eqb-true h.0 f.0 q) in
          let place = e ∙ ap (λ (x : Gppn). Clear x w) r in
          there w (record {
            frame = hf;
            within = hd;
            names = (accepted.looks.agrees.named d v f w hd.domain hd.page place).1;
            place = place;
          })
      pick false q enough =
          let hh = (accepted.looks.agrees.named d v h w hd.domain hd.page e).0 in
          let fit : Fits g.setup (h ∷ f ∷ []) = (hh, (hf, tt)) in
          let room = room_first g h (f ∷ []) m enough in
          let next = first_accepted g h (f ∷ []) m accepted fit enough in
          let rest = room_first g f [] (seal g h m) (room_rest g h (f ∷ []) m accepted fit enough) in
          let own = seal_place_own g h m accepted hh room d v hd w e in
          away (sealed_with m.tables.used w) (seal_place_kept g f (seal g h m) next hf rest d v hd (λ c. rw own at c) ∙ own)
          (seal_names g f (seal g h m) next hf rest)
  ready_at (Sealed k) e enough =
      let room = room_first g f [] m enough in
      away k (seal_place_kept g f m accepted hf room d v hd (λ c. rw e at c) ∙ e) (seal_names g f m accepted hf room)

  pub touch_case : Enough g (sealed_first f (place_of g.setup m.tables d v)) m
      → TouchCase g.setup (seal_all g (sealed_first f (place_of g.setup m.tables d v)) m).tables f d v
  touch_case enough = ready_at (place_of g.setup m.tables d v) refl enough
