-- A number that an event names is within the setup where it is below the size.
use mathlib.Core.Path.{◌≡◌, refl}
use lib.Dec.{ltb}
use Rattle.rules.specs.Sizes.{domain_in, page_in, frame_in, context_in}
use Rattle.rules.specs.declared.Setup.{Setup}
use Rattle.rules.specs.declared.Asid.{Asid}
use Rattle.rules.specs.declared.Gvpn.{Gvpn}
use Rattle.rules.specs.declared.Gppn.{Gppn}
use Rattle.rules.specs.declared.Ctc.{Ctc}

pub domain_below : (s : Setup) (d : Asid) → domain_in s d ≡ ltb d.0 s.domains
unfolding domain_in
domain_below s d = refl

pub page_below : (s : Setup) (v : Gvpn) → page_in s v ≡ ltb v.0 s.pages
unfolding page_in
page_below s v = refl

pub frame_below : (s : Setup) (f : Gppn) → frame_in s f ≡ ltb f.0 s.frames
unfolding frame_in
frame_below s f = refl

pub context_below : (s : Setup) (c : Ctc) → context_in s c ≡ ltb c.0 s.contexts
unfolding context_in
context_below s c = refl

pub ruleset below = (domain_below, page_below, frame_below, context_below)
