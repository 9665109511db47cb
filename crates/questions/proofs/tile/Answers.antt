-- `tile` meets its contract. Assumes nothing.
use lib.ListN
use mathlib.Core.Path.{refl}
use native.Mathlib.Omega.{arith}
use Rattle.texts.specs.Lent.{text_of}
use Rattle.questions.proofs.Passing.{table_sound, reply_refused, reply_given}
use Rattle.questions.proofs.tile.Goals as goal

pub returns-in_err-check_table : goal.returns-in_err-check_table
returns-in_err-check_table c = let a = c.args in reply_refused (text_of a.text) a.limits a.table.now a.room.now _ c.in_err-check_table.ensures _ c.from_residual.ensures.1

pub fill_lengths-requires : goal.fill_lengths-requires
fill_lengths-requires c = let a = c.args in let (t, l, h) = table_sound (text_of a.text) a.limits (ListN.length a.table.now) _ c.in_ok-check_table.ensures refl in record { sound_text = t; sizes = (l.near, omega (arith, t.short)) }

pub tile_by-requires : goal.tile_by-requires
tile_by-requires c = let a = c.args in let (t, l, h) = table_sound (text_of a.text) a.limits (ListN.length a.table.now) _ c.in_ok-check_table.ensures refl in record { sound_text = t; sound_limits = l; held = c.fill_lengths.ensures.filled; lengths_fit = omega (arith, t.short, c.fill_lengths.auto); table_fits = h }

pub returns : goal.returns
returns c = let a = c.args in reply_given (text_of a.text) a.limits a.table.now a.room.now c.in_ok-check_table.ensures _ _ _ c.tile_by.ensures
