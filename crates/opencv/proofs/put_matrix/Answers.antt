-- `opencv::put_matrix` meets its contract. Assumes nothing.
use native.Mathlib.Omega.{arith}
use Rattle.params_line.specs.Params.{word_line}
use Rattle.params_line.proofs.Putting.{line_long}
use Rattle.opencv.specs.Text.{matrix_word, coeffs_word}
use Rattle.opencv.specs.Moved.{their_matrix, their_coeffs}
use Rattle.opencv.proofs.Answers.{both_put}
use Rattle.opencv.proofs.put_matrix.Goals as goal

pub returns : goal.returns
unfolding their_matrix their_coeffs
returns c =
    let n = c.args.n in
    both_put _ (word_line matrix_word (their_matrix n)) (word_line coeffs_word (their_coeffs n))
    (omega (arith, c.requires, line_long matrix_word (their_matrix n), line_long coeffs_word (their_coeffs n)))
    _ _ _ _ c.put_line-next.ensures c.put_line.ensures
