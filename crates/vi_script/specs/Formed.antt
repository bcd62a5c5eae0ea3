-- Forms as the reader of a text keeps them.
use Rattle.std.specs.Prelude.{ℕ, Bool, List}
use Rattle.vi_script.specs.declared.deed.DeedWords.{DeedWords}
use Rattle.vi_script.specs.declared.deed.DeedWords.TheVariants as words
use Rattle.vi_script.specs.declared.deed.ActWords.{ActWords}
use Rattle.vi_script.specs.declared.form.FormWords.{FormWords}
use Rattle.vi_script.specs.declared.form.FormWords.TheVariants as form
use Rattle.vi_script.specs.declared.form.Setting.{Setting}
use Rattle.vi_script.specs.declared.form.Setting.TheVariants as setting
use Rattle.vi_script.specs.declared.form.Switch.{Switch}
use Rattle.vi_script.specs.declared.form.Switch.TheVariants as switch
use Rattle.vi_script.specs.Names.{named, all_awaited, all_turned}
use Rattle.vi_script.specs.Forms.{Act, Form, SetsMemory, SetsQueue, SetsCache, SetsGranule, SetsInput, StartsBypass, StartsEvents, DeclaresEndpoint, Reserves, TakesTurns, Acts, Deed, Attaches, Detaches, Maps, Unmaps, Probes, SetsBypass, SendsRaw, Reads, Writes}

-- the deed of these words
abbrev pub deed_of : DeedWords → Deed
deed_of (words.Attach domain endpoint bypass) = Attaches domain.now endpoint.now bypass
deed_of (words.Detach domain endpoint) = Detaches domain.now endpoint.now
deed_of (words.Map domain first last target flags) = Maps domain.now first.now last.now target.now flags
deed_of (words.Unmap domain first last) = Unmaps domain.now first.now last.now
deed_of (words.Probe endpoint) = Probes endpoint.now
deed_of (words.Bypass on) = SetsBypass on
deed_of (words.Raw hex writable) = SendsRaw hex.now writable.now
deed_of (words.Read iova len) = Reads iova.now len.now
deed_of (words.Write iova hex) = Writes iova.now hex.now

-- what an actor line does
abbrev pub acted : ActWords → Act
acted a = record { deed = deed_of a.deed; add = a.add; awaits = all_awaited a.awaits.items }

-- the setting of a number, and of a switch
abbrev pub sets : Setting → List ℕ → Form
sets setting.Memory word = SetsMemory word
sets setting.Queue word = SetsQueue word
sets setting.Cache word = SetsCache word
sets setting.Granule word = SetsGranule word

abbrev pub switches : Switch → Bool → Form
switches switch.Bypass on = StartsBypass on
switches switch.Events on = StartsEvents on

-- the form of these words
abbrev pub formed : FormWords → Form
formed (form.Sets s word) = sets s word.now
formed (form.Switches s on) = switches s on
formed (form.Endpoint word) = DeclaresEndpoint word.now
formed (form.Input first last) = SetsInput first.now last.now
formed (form.Reserve endpoint kind first last) = Reserves endpoint.now kind first.now last.now
formed (form.Turns turns) = TakesTurns (all_turned turns.items)
formed (form.Acts caller act) = Acts (named caller) (acted act)
