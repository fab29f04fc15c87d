-- The parts of a record, put one behind the other, are the record. Assumes nothing.
use Rattle.std.proofs.Common.{◌≡◌, ℕ, ◌+◌, ◌*◌, ◌<◌, ◌≤◌, List, ◌++◌, length, take, drop, sym, refl, ap, ◌∙◌, arith, length-append, le-leb}
use lib.Ieee.{Float}
use lib.Seq.{take-append-add}
use Rattle.little_endian.specs.Bytes.{bytes, floats, put}
use Rattle.little_endian.proofs.Laws.{length_bytes, length_floats, length_put, not_put, put_put}
use Rattle.region.specs.Region.{four}
use Rattle.region.specs.declared.Region.{Region}
use Rattle.camera.specs.Numbers.{most, model_number, padded}
use Rattle.camera.specs.declared.Camera.{Camera}
use Rattle.camera.proofs.Laws.{padded_length}
use Rattle.job.specs.declared.Job.{Job}
use Rattle.job_bytes.specs.Places.{updates_place, params_place, width_place, height_place, done_place, edges_place, region_place, unsettled_place, first_place, mark_place, check_place, record_length}
use Rattle.job_bytes.specs.Bytes.{mark, camera_part, size_part, boxes, tallies, body, record_bytes}
use Rattle.job_bytes.specs.Check.{check_of}
use Rattle.job_bytes.proofs.Summing.{check_behind}

-- ---- how long each part is

pub longer : (a b : List ℕ) (m n : ℕ) → length a ≡ m → length b ≡ n → length (a ++ b) ≡ m + n
longer a b m n e f = omega (arith, length-append a b, e, f)

pub length_padded : (camera : Camera) → length (floats (padded camera)) ≡ 8 * most
length_padded camera = length_floats (padded camera) ∙ ap (λ (n : ℕ). 8 * n) (padded_length camera)

pub length_four : (r : Region) → length (floats (four r)) ≡ 32
length_four r = length_floats (four r)

module _ (job : Job) where
  pub long_camera : length (camera_part job) ≡ width_place
  unfolding camera_part
  long_camera =
      longer (bytes 4 (model_number job.camera) ++ bytes 4 job.at.updates) (floats (padded job.camera)) params_place (8 * most)
      (longer (bytes 4 (model_number job.camera)) (bytes 4 job.at.updates) 4 4 (length_bytes 4 (model_number job.camera)) (length_bytes 4 job.at.updates))
      (length_padded job.camera)

  pub long_size : length (size_part job) ≡ 16
  unfolding size_part
  long_size =
      longer (bytes 4 job.width ++ bytes 4 job.height) (bytes 8 job.at.done) 8 8
      (longer (bytes 4 job.width) (bytes 4 job.height) 4 4 (length_bytes 4 job.width) (length_bytes 4 job.height))
      (length_bytes 8 job.at.done)

  pub long_boxes : length (boxes job) ≡ 64
  unfolding boxes
  long_boxes = longer (floats (four job.at.edges)) (floats (four job.at.region)) 32 32 (length_four job.at.edges) (length_four job.at.region)

  pub long_tallies : length (tallies job) ≡ 16
  unfolding tallies
  long_tallies =
      longer (bytes 4 job.at.unsettled ++ bytes 4 job.at.first) (bytes 8 (mark job.strict)) 8 8
      (longer (bytes 4 job.at.unsettled) (bytes 4 job.at.first) 4 4 (length_bytes 4 job.at.unsettled) (length_bytes 4 job.at.first))
      (length_bytes 8 (mark job.strict))

  -- so far in front of the boxes, and of the tallies
  pub to_boxes : length (camera_part job ++ size_part job) ≡ edges_place
  to_boxes = longer (camera_part job) (size_part job) width_place 16 long_camera long_size

  pub to_tallies : length (camera_part job ++ size_part job ++ boxes job) ≡ unsettled_place
  to_tallies = longer (camera_part job ++ size_part job) (boxes job) edges_place 64 to_boxes long_boxes

  pub long_body : length (body job) ≡ check_place
  long_body = longer (camera_part job ++ size_part job ++ boxes job) (tallies job) unsettled_place 16 to_tallies long_tallies

  -- the check word
  abbrev pub last_part : List ℕ
  last_part = bytes 8 (check_of (body job))

  pub length_record : length (record_bytes job) ≡ record_length
  unfolding record_bytes
  length_record = longer (body job) last_part check_place 8 long_body (length_bytes 8 (check_of (body job)))

  -- a buffer that is too short
  pub no_room : (lent : List ℕ) → length lent < record_length → lent ≡ put 0 (record_bytes job) lent
  no_room lent h = sym (not_put 0 (record_bytes job) lent (omega (arith, h, length_record)))

-- ---- put one behind the other

laid : (at : ℕ) (new bs : List ℕ) → at + length new ≤ length bs → put at new bs ≡ take at bs ++ new ++ drop (at + length new) bs
unfolding put
laid at new bs h = simp (le-leb (at + length new) (length bs) h)

-- putting keeps the length
pub room_kept : (at : ℕ) (new x y : List ℕ) → y ≡ put at new x → length y ≡ length x
room_kept at new x y e = ap length e ∙ length_put at new x

module _ (lent : List ℕ) (room : record_length ≤ length lent) where
  -- b, of some size, at its place behind a, which starts earlier
  behind :
      (start : ℕ) (a b x y : List ℕ) (at size : ℕ) →
      at ≡ start + length a →
      length b ≡ size →
      at + size ≤ record_length →
      x ≡ put start a lent →
      y ≡ put at b x →
      y ≡ put start (a ++ b) lent
  behind start a b x y at size la lb h e f = f ∙ ap (put at b) e ∙ put_put start a b lent at la (omega (arith, la, lb, h, room))

  module _ (job : Job) where
    pub camera_put :
        (model : ℕ) (numbers : List Float) (x₀ x₁ x₂ : List ℕ) →
        model ≡ model_number job.camera →
        numbers ≡ padded job.camera →
        x₀ ≡ put 0 (bytes 4 model) lent →
        x₁ ≡ put updates_place (bytes 4 job.at.updates) x₀ →
        x₂ ≡ put params_place (floats numbers) x₁ →
        x₂ ≡ put 0 (camera_part job) lent
    unfolding camera_part
    camera_put model numbers x₀ x₁ x₂ m n e₀ e₁ e₂ =
        let a = bytes 4 (model_number job.camera) in
        let b = bytes 4 job.at.updates in
        let la : length a ≡ 4 = length_bytes 4 (model_number job.camera) in
        let lb : length b ≡ 4 = length_bytes 4 job.at.updates in
        behind 0 (a ++ b) (floats (padded job.camera)) x₁ x₂ params_place (8 * most) (omega (arith, la, lb, length-append a b)) (length_padded job.camera) (omega arith)
        (behind 0 a b x₀ x₁ updates_place 4 (omega (arith, la)) lb (omega arith) (e₀ ∙ ap (λ (w : ℕ). put 0 (bytes 4 w) lent) m) e₁)
        (e₂ ∙ ap (λ (l : List Float). put params_place (floats l) x₁) n)

    pub size_put :
        (x₀ x₁ x₂ : List ℕ) →
        x₀ ≡ put width_place (bytes 4 job.width) lent →
        x₁ ≡ put height_place (bytes 4 job.height) x₀ →
        x₂ ≡ put done_place (bytes 8 job.at.done) x₁ →
        x₂ ≡ put width_place (size_part job) lent
    unfolding size_part
    size_put x₀ x₁ x₂ e₀ e₁ e₂ =
        let a = bytes 4 job.width in
        let b = bytes 4 job.height in
        let la : length a ≡ 4 = length_bytes 4 job.width in
        let lb : length b ≡ 4 = length_bytes 4 job.height in
        behind width_place (a ++ b) (bytes 8 job.at.done) x₁ x₂ done_place 8 (omega (arith, la, lb, length-append a b)) (length_bytes 8 job.at.done) (omega arith)
        (behind width_place a b x₀ x₁ height_place 4 (omega (arith, la)) lb (omega arith) e₀ e₁)
        e₂

    pub boxes_put :
        (x₀ x₁ : List ℕ) →
        x₀ ≡ put edges_place (floats (four job.at.edges)) lent →
        x₁ ≡ put region_place (floats (four job.at.region)) x₀ →
        x₁ ≡ put edges_place (boxes job) lent
    unfolding boxes
    boxes_put x₀ x₁ =
        behind edges_place (floats (four job.at.edges)) (floats (four job.at.region)) x₀ x₁ region_place 32
        (omega (arith, length_four job.at.edges)) (length_four job.at.region) (omega arith)

    pub tallies_put :
        (marked : ℕ) (x₀ x₁ x₂ : List ℕ) →
        marked ≡ mark job.strict →
        x₀ ≡ put unsettled_place (bytes 4 job.at.unsettled) lent →
        x₁ ≡ put first_place (bytes 4 job.at.first) x₀ →
        x₂ ≡ put mark_place (bytes 8 marked) x₁ →
        x₂ ≡ put unsettled_place (tallies job) lent
    unfolding tallies
    tallies_put marked x₀ x₁ x₂ m e₀ e₁ e₂ =
        let a = bytes 4 job.at.unsettled in
        let b = bytes 4 job.at.first in
        let la : length a ≡ 4 = length_bytes 4 job.at.unsettled in
        let lb : length b ≡ 4 = length_bytes 4 job.at.first in
        behind unsettled_place (a ++ b) (bytes 8 (mark job.strict)) x₁ x₂ mark_place 8 (omega (arith, la, lb, length-append a b)) (length_bytes 8 (mark job.strict)) (omega arith)
        (behind unsettled_place a b x₀ x₁ first_place 4 (omega (arith, la)) lb (omega arith) e₀ e₁)
        (e₂ ∙ ap (λ (w : ℕ). put mark_place (bytes 8 w) x₁) m)

    -- the four parts make the body
    pub body_put :
        (x₀ x₁ x₂ x₃ : List ℕ) →
        x₀ ≡ put 0 (camera_part job) lent →
        x₁ ≡ put width_place (size_part job) x₀ →
        x₂ ≡ put edges_place (boxes job) x₁ →
        x₃ ≡ put unsettled_place (tallies job) x₂ →
        x₃ ≡ put 0 (body job) lent
    body_put x₀ x₁ x₂ x₃ e₀ e₁ e₂ e₃ =
        let c = camera_part job in
        let s = size_part job in
        let b = boxes job in
        behind 0 (c ++ s ++ b) (tallies job) x₂ x₃ unsettled_place 16 (omega (arith, to_tallies job)) (long_tallies job) (omega arith)
        (behind 0 (c ++ s) b x₁ x₂ edges_place 64 (omega (arith, to_boxes job)) (long_boxes job) (omega arith)
        (behind 0 c s x₀ x₁ width_place 16 (omega (arith, long_camera job)) (long_size job) (omega arith) e₀ e₁)
        e₂)
        e₃

    -- the check word is the one of what stands before it in the buffer
    pub check_put :
        (check : ℕ) (bodied all : List ℕ) →
        bodied ≡ put 0 (body job) lent →
        check ≡ check_of (take record_length bodied) →
        all ≡ put check_place (bytes 8 check) bodied →
        all ≡ put 0 (record_bytes job) lent
    unfolding record_bytes
    check_put check bodied all e c f =
        let rest : List ℕ = drop (0 + length (body job)) lent in
        let end : record_length ≡ length (body job) + 8 = omega (arith, long_body job) in
        let front : take record_length bodied ≡ body job ++ take 8 rest =
        ap (take record_length) (e ∙ laid 0 (body job) lent (omega (arith, long_body job, room)))
        ∙ ap (λ (k : ℕ). take k (body job ++ rest)) end
        ∙ take-append-add (body job) rest 8 in
        let same : check ≡ check_of (body job) = c ∙ ap check_of front ∙ check_behind (body job) (take 8 rest) (long_body job) in
        behind 0 (body job) (last_part job) bodied all check_place 8 (omega (arith, long_body job)) (length_bytes 8 (check_of (body job))) (omega arith) e
        (f ∙ ap (λ (w : ℕ). put check_place (bytes 8 w) bodied) same)
