-- What a package file has, by its place and its bytes: installed packages, the system, a bad line, or too many bytes. The
-- system of the root does not enter. (The limit is defined by this project; the formats are those of dpkg, apk, os-release(5),
-- npm and Python's core metadata, each read by its own crate.)
use Rattle.std.specs.Prelude.{ℕ, nat_lt, if◌then◌else◌, List, length, Result, Ok, Err}
use Rattle.cv_base.specs.declared.fault.FileBad.{FileBad}
use Rattle.cv_base.specs.declared.limits.TheConstants.{PACKAGE_FILE_LIMIT}
use Rattle.cv_path.specs.declared.places.Place.{Place}
use Rattle.cv_path.specs.declared.places.Place.TheVariants.{Status, StatusFolder, Installed, UsrInstalled, Os, UsrOs, Npm, Pypi}
use Rattle.cv_base.specs.declared.tree.Content.{Content}
use Rattle.cv_base.specs.declared.tree.Content.TheVariants.{Bytes, TooLarge, Unread}
use Rattle.cv_dpkg.specs.Status.{status}
use Rattle.cv_dpkg.specs.declared.package.DebPackage.{DebPackage}
use Rattle.cv_dpkg.specs.declared.rule.StatusRule.TheVariants.{Needed, Optional}
use Rattle.cv_apkdb.specs.Installed.{installed}
use Rattle.cv_apkdb.specs.declared.package.ApkPackage.{ApkPackage}
use Rattle.cv_npm.specs.Npm.{npm}
use Rattle.cv_osrel.specs.System.{os_of}
use Rattle.cv_pypi.specs.Metadata.{pypi}
use Rattle.cv_packages.specs.declared.found.Found.{Found}
use Rattle.cv_packages.specs.declared.found.Found.TheVariants as found

-- a status file of dpkg: its packages, or its first bad line
abbrev pub status_found : Result (List DebPackage) FileBad → Found
status_found (Ok packages) = found.Status packages
status_found (Err bad) = found.Bad bad

-- apk's installed database: its packages, or its first bad line
abbrev pub installed_found : Result (List ApkPackage) FileBad → Found
installed_found (Ok packages) = found.Installed packages
installed_found (Err bad) = found.Bad bad

-- a file of these bytes at a place. A paragraph needs a field Status in dpkg's own file, and not in the folder of status files
abbrev pub found_at : Place → List ℕ → Found
found_at Status bytes = status_found (status bytes Needed)
found_at StatusFolder bytes = status_found (status bytes Optional)
found_at Installed bytes = installed_found (installed bytes)
found_at UsrInstalled bytes = installed_found (installed bytes)
found_at Os bytes = found.Os (os_of bytes)
found_at UsrOs bytes = found.Os (os_of bytes)
found_at Npm bytes = found.Npm (npm bytes)
found_at Pypi bytes = found.Pypi (pypi bytes)

-- a file at a place: more bytes than the limit are not read. (A file that was left unread counts as one above the limit.)
abbrev pub found_in : Place → Content → Found
found_in place (Bytes bytes) = if nat_lt PACKAGE_FILE_LIMIT (length bytes) then found.TooLarge else found_at place bytes
found_in place TooLarge = found.TooLarge
found_in place Unread = found.TooLarge
