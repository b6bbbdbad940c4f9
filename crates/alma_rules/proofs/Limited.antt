-- A frame with one more variable or parameter, or without, where its declared cells would pass the limit.
use Rattle.std.proofs.Common.{◌≡◌, ◌≤◌, Bool, true, false, [], refl, sym, ◌∙◌}
use Rattle.std.specs.Prelude.{nat_le}
use Rattle.std.proofs.lemmas.Bool.{leb-true}
use Rattle.alma_base.specs.Choice.{if_true}
use Rattle.alma_base.specs.Limits.{cell_limit}
use Rattle.alma_rules.specs.Numbered as tree
use Rattle.alma_rules.specs.Decls.{Frame, too_large, within_limit}
use Rattle.alma_rules.proofs.Sound.{nil_left, nil_right}

-- what holds with it, where it is within the limit, and without it
pub limited_case : (P : Frame → Type 0) (name : tree.Name) (f g : Frame) → (g.declared ≤ cell_limit → P g) → P (too_large f name g.scene)
    → P (within_limit name f g)
limited_case P name f g taken left = by (nat_le g.declared cell_limit) refl
  where
    by : (b : Bool) → nat_le g.declared cell_limit ≡ b → P (if_true b (λ _. g) (λ _. too_large f name g.scene))
    by true e = taken (leb-true g.declared cell_limit e)
    by false e = left

pub limited_scene : (name : tree.Name) (f g : Frame) → (within_limit name f g).scene ≡ g.scene
limited_scene name f g = limited_case (λ h. h.scene ≡ g.scene) name f g (λ le. refl) refl

-- the two cases by the declared cells
pub limited_here : (name : tree.Name) (f g : Frame) → nat_le g.declared cell_limit ≡ true → within_limit name f g ≡ g
limited_here name f g h = by (nat_le g.declared cell_limit) h
  where
    by : (b : Bool) → b ≡ true → if_true b (λ _. g) (λ _. too_large f name g.scene) ≡ g
    by true e = refl
    by false e = absurd (let bad : false ≡ true = e in cc)

pub limited_out : (name : tree.Name) (f g : Frame) → nat_le g.declared cell_limit ≡ false → within_limit name f g ≡ too_large f name g.scene
limited_out name f g h = by (nat_le g.declared cell_limit) h
  where
    by : (b : Bool) → b ≡ false → if_true b (λ _. g) (λ _. too_large f name g.scene) ≡ too_large f name g.scene
    by true e = absurd (let bad : true ≡ false = e in cc)
    by false e = refl

-- a rule that is broken before stays broken
pub limited_faults : (name : tree.Name) (f g : Frame) → (within_limit name f g).faults ≡ [] → g.faults ≡ f.faults → f.faults ≡ []
limited_faults name f g e same = by (nat_le g.declared cell_limit) e
  where
    by : (b : Bool) → (if_true b (λ _. g) (λ _. too_large f name g.scene)).faults ≡ [] → f.faults ≡ []
    by true e = sym same ∙ e
    by false e = nil_left f.faults _ e

-- where left rule is broken it is within the limit
pub limited_quiet : (P : Frame → Type 0) (name : tree.Name) (f g : Frame) → (within_limit name f g).faults ≡ []
    → (g.declared ≤ cell_limit → P g)
    → P (within_limit name f g)
limited_quiet P name f g e taken = by (nat_le g.declared cell_limit) refl e
  where
    by : (b : Bool) → nat_le g.declared cell_limit ≡ b → (if_true b (λ _. g) (λ _. too_large f name g.scene)).faults ≡ []
        → P (if_true b (λ _. g) (λ _. too_large f name g.scene))
    by true i e = taken (leb-true g.declared cell_limit i)
    by false i e = absurd (let bad : (too_large f name g.scene).faults ≡ [] = e in let none = nil_right f.faults _ bad in cc)
