-- What a context's domain and its own page are, by agreeing records: the domain is one of the setup's, and so is the frame that the
-- page is mapped to.
use Rattle.std.specs.Prelude.{Option, Some, None}
use mathlib.Core.Path.{◌≡◌, refl}
use mathlib.Core.Bool.{true, not}
use Prim.Native.Nat.{ℕ, ◌≤◌, ◌<◌}
use native.Mathlib.Omega.{arith}
use Rattle.rules.specs.Records.{activity_of, domain_of, domain_where, mapping_of, frame_where, is_unmapped}
use Rattle.rules.specs.Events.{own_frame, own_mapped}
use Rattle.rules.specs.Asked.{Limited, Agreed}
use Rattle.rules.specs.declared.Setup.{Setup}
use Rattle.rules.specs.declared.Tables.{Tables}
use Rattle.rules.specs.declared.Asid.{Asid}
use Rattle.rules.specs.declared.Gvpn.{Gvpn}
use Rattle.rules.specs.declared.Gppn.{Gppn}
use Rattle.rules.specs.declared.Ctc.{Ctc}
use Rattle.rules.specs.declared.TrapKind.{TrapKind}
use Rattle.rules.specs.declared.Activity.{Activity}
use Rattle.rules.specs.declared.Activity.TheVariants.{Free, Running, Kept}

home_at : (n : ℕ) → 1 ≤ n → (a : Activity) → ((d : Asid) → a ≡ Running d → d.0 < n)
    → ((d : Asid) (k : TrapKind) → a ≡ Kept d k → d.0 < n)
    → (domain_where a).0 < n
home_at n some Free running kept = omega arith
home_at n some (Running d) running kept = running d refl
home_at n some (Kept d k) running kept = kept d k refl

-- of a Free context domain 0 is asked, and there is one
pub home : (s : Setup) (t : Tables) → Limited s → Agreed s t → (c : Ctc) → c.0 < s.contexts → (domain_of t c).0 < s.domains
home s t size agrees c h =
    home_at s.domains size.some_domains (activity_of t c) (λ d e. (agrees.inhabited c d h e).0)
    (λ d k e. (agrees.kept c d k h e).0)

module _ (s : Setup) (t : Tables) (size : Limited s) (agrees : Agreed s t) (c : Ctc) (v : Gvpn) (known : c.0 < s.contexts)
    (below : v.0 < s.pages) where
  -- the frame of a context's own page is within the setup
  pub own_frame_holds : own_mapped s t c v ≡ true → (own_frame s t c v).0 < s.frames
  unfolding own_mapped own_frame
  own_frame_holds is =
      at (mapping_of s t (domain_of t c) v) (λ f e. agrees.mapped (domain_of t c) v f (home s t size agrees c known) below e) is
    where
      at : (m : Option Gppn) → ((f : Gppn) → m ≡ Some f → f.0 < s.frames) → not (is_unmapped m) ≡ true
          → (frame_where m).0 < s.frames
      at None h e = absurd (let z : ◌≡◌ {A = ℕ} 0 1 = cc in omega arith)
      at (Some f) h e = h f refl
